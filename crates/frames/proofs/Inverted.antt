-- What a frame that was read tells of its octets. Assumes nothing.
use Rattle.std.proofs.Common.{◌≡◌, ℕ, ◌+◌, ◌-◌, ◌≤◌, List, [], ◌++◌, length, get_or, take, drop, Some, None, Ok, Option, sym, ap, ◌∙◌, arith}
use Rattle.std.proofs.Math.Seq.{take-add}
use Rattle.std.proofs.lemmas.List.{length-drop, length-take-le, take-append-drop, take_all}
use Rattle.std.proofs.lemmas.Bool.Decides.{nat_tests}
use Rattle.octets.specs.Runs.{run}
use Rattle.octets.proofs.Laws.{octet_at, run_is_part}
use Rattle.frames.specs.Headers.{part, kind, stated_length, stated_kind}
use Rattle.frames.specs.Reading.{by_header, wrapper_shape, notice_shape, a_wrapper, a_notice}
use Rattle.frames.specs.Telegrams.{sign_in_of}
use Rattle.frames.specs.Writing.{authenticate_lead}
use Rattle.frames.specs.Laws as law

pub from_wrapper : (o : Option ℕ) (f : List ℕ) (s k e t : ℕ) (a n c m : List ℕ) → by_header o f ≡ Ok (a_wrapper s k e t a n c m)
    → (44 ≤ length f) × (length f ≤ 512) × (wrapper_shape f ≡ a_wrapper s k e t a n c m)
from_wrapper None f s k e t a n c m h = let z : ◌≡◌ {A = ℕ} 0 1 = cc in absurd (omega arith)
from_wrapper (Some i) f s k e t a n c m h = (grind (arith, nat_tests), grind (arith, nat_tests), grind (arith, nat_tests))

pub from_notice : (o : Option ℕ) (f : List ℕ) (k e t : ℕ) (a n m : List ℕ) → by_header o f ≡ Ok (a_notice k e t a n m)
    → (length f ≡ 36) × (notice_shape f ≡ a_notice k e t a n m)
from_notice None f k e t a n m h = let z : ◌≡◌ {A = ℕ} 0 1 = cc in absurd (omega arith)
from_notice (Some i) f k e t a n m h = (grind (arith, nat_tests), grind (arith, nat_tests))

-- a front and the part after it are a longer front
step : (f : List ℕ) (k n j : ℕ) → k + n ≡ j → take k f ++ part n k f ≡ take j f
step f k n j e = sym (take-add k n f) ∙ ap (λ i. take i f) e

part_length : (f : List ℕ) (n k : ℕ) → k + n ≤ length f → length (part n k f) ≡ n
part_length f n k h = length-take-le n (drop k f) (rw (length-drop k f) (omega arith))

wrapper_whole : (f : List ℕ) → 44 ≤ length f → part 8 0 f ++ part 14 8 f ++ part (length f - 38) 22 f ++ part 16 (length f - 16) f ≡ f
wrapper_whole f h =
    let c = part (length f - 38) 22 f in
    let m = part 16 (length f - 16) f in
    ap (λ (l : List ℕ). l ++ c ++ m) (step f 8 14 22 (omega arith))
    ∙ ap (λ (l : List ℕ). l ++ m) (step f 22 (length f - 38) (length f - 16) (omega arith))
    ∙ step f (length f - 16) 16 (length f) (omega arith)
    ∙ take_all (length f) f (omega arith)

notice_whole : (f : List ℕ) → length f ≡ 36 → part 6 0 f ++ part 14 6 f ++ part 16 20 f ≡ f
notice_whole f h = ap (λ (l : List ℕ). l ++ part 16 20 f) (step f 6 14 20 (omega arith)) ∙ step f 20 16 36 (omega arith) ∙ take_all 36 f (omega arith)

pub wrapper_is_its_parts : law.WrapperIsItsParts
wrapper_is_its_parts f session count serial tag a n c m h =
    let p = from_wrapper (stated_kind f) f session count serial tag a n c m h in
    let low : 44 ≤ length f = p.0 in
    let high : length f ≤ 512 = p.1 in
    let same : wrapper_shape f ≡ a_wrapper session count serial tag a n c m = p.2 in
    let q : (part 8 0 f ≡ a) × (part 14 8 f ≡ n) × (part (length f - 38) 22 f ≡ c) × (part 16 (length f - 16) f ≡ m) = (cc, cc, cc, cc) in
    let lc : length c ≡ length f - 38 = ap length (sym q.2) ∙ part_length f (length f - 38) 22 (omega arith) in
    let parts : part 8 0 f ++ part 14 8 f ++ part (length f - 38) 22 f ++ part 16 (length f - 16) f ≡ a ++ n ++ c ++ m =
    rw (q.0, q.1, q.2, q.3) in (
      sym (wrapper_whole f low) ∙ parts,
      ap length (sym q.0) ∙ part_length f 8 0 (omega arith),
      ap length (sym q.1) ∙ part_length f 14 8 (omega arith),
      omega arith,
      omega arith,
      ap length (sym q.3) ∙ part_length f 16 (length f - 16) (omega arith),
    )

pub notice_is_its_parts : law.NoticeIsItsParts
notice_is_its_parts f time serial tag a n m h =
    let p = from_notice (stated_kind f) f time serial tag a n m h in
    let size : length f ≡ 36 = p.0 in
    let same : notice_shape f ≡ a_notice time serial tag a n m = p.1 in
    let q : (part 6 0 f ≡ a) × (part 14 6 f ≡ n) × (part 16 20 f ≡ m) = (cc, cc, cc) in
    let parts : part 6 0 f ++ part 14 6 f ++ part 16 20 f ≡ a ++ n ++ m = rw (q.0, q.1, q.2) in (
      sym (notice_whole f size) ∙ parts,
      ap length (sym q.0) ∙ part_length f 6 0 (omega arith),
      ap length (sym q.1) ∙ part_length f 14 6 (omega arith),
      ap length (sym q.2) ∙ part_length f 16 20 (omega arith),
    )

pub from_header : (t : List ℕ) (k : ℕ) → stated_kind t ≡ Some k → (get_or t 0 0 ≡ 6) × (get_or t 1 0 ≡ 16) × (kind t ≡ k) × (stated_length t ≡ length t)
from_header t k h = (grind (arith, nat_tests), grind (arith, nat_tests), grind (arith, nat_tests), grind (arith, nat_tests))

pub from_sign_in : (o : Option ℕ) (t : List ℕ) (user : ℕ) (m : List ℕ) → sign_in_of o t ≡ Some (user, m)
    → (o ≡ Some 0x0953) × (length t ≡ 24) × (get_or t 6 0 ≡ 0) × (◌≡◌ {A = Option (ℕ × List ℕ)} (Some (get_or t 7 0, part 16 8 t)) (Some (user, m)))
from_sign_in None t user m h = let z : ◌≡◌ {A = ℕ} 0 1 = cc in absurd (omega arith)
from_sign_in (Some k) t user m h =
    let e : k ≡ 0x0953 = grind (arith, nat_tests) in
    (ap Some e, grind (arith, nat_tests), grind (arith, nat_tests), grind (arith, nat_tests))

abbrev user_of : Option (ℕ × List ℕ) → ℕ
user_of (Some p) = p.0
user_of None = 0

abbrev mac_of : Option (ℕ × List ℕ) → List ℕ
mac_of (Some p) = p.1
mac_of None = []

pub first_octets : (t : List ℕ) (user : ℕ) → get_or t 0 0 ≡ 0x06 → get_or t 1 0 ≡ 0x10 → get_or t 2 0 ≡ 0x09 → get_or t 3 0 ≡ 0x53 → get_or t 4 0 ≡ 0x00 → get_or t 5 0 ≡ 0x18 → get_or t 6 0 ≡ 0x00 → get_or t 7 0 ≡ user
    → run 8 0 t ≡ authenticate_lead user
unfolding authenticate_lead
first_octets t user e0 e1 e2 e3 e4 e5 e6 e7 = rw (e0, e1, e2, e3, e4, e5, e6, e7)

pub authenticate_is_its_parts : law.AuthenticateIsItsParts
authenticate_is_its_parts t user m o h =
    let p = from_sign_in (stated_kind t) t user m h in
    let size : length t ≡ 24 = p.1 in
    let q = from_header t 0x0953 p.0 in
    let k : kind t ≡ 0x0953 = q.2 in
    let l : stated_length t ≡ length t = q.3 in
    let o2 = octet_at t 2 o in
    let o3 = octet_at t 3 o in
    let o4 = octet_at t 4 o in
    let o5 = octet_at t 5 o in
    let lead : run 8 0 t ≡ authenticate_lead user =
    first_octets t user q.0 q.1 (omega arith) (omega arith) (omega arith) (omega arith) p.2 (ap user_of p.3) in
    let front : part 8 0 t ≡ authenticate_lead user = sym (run_is_part 8 0 t (omega arith)) ∙ lead in
    let mac : part 16 8 t ≡ m = ap mac_of p.3 in
    let rest : drop 8 t ≡ m = sym (take_all 16 (drop 8 t) (rw (length-drop 8 t) (omega arith))) ∙ mac in (
      sym (take-append-drop 8 t) ∙ ap (λ (x : List ℕ). x ++ drop 8 t) front ∙ ap (λ (x : List ℕ). authenticate_lead user ++ x) rest,
      front,
      ap length (sym mac) ∙ part_length t 16 8 (omega arith),
    )
