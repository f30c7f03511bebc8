-- How much a sealer takes. Assumes nothing.
use Rattle.std.specs.Prelude.{ℕ}

abbrev pub largest_telegram : ℕ
largest_telegram = 474
