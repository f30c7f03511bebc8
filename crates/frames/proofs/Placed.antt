-- Parts written one after the other into an output. Assumes nothing.
use Rattle.std.proofs.Common.{◌≡◌, ℕ, ◌+◌, ◌-◌, List, ◌++◌, length, drop, arith, rules}
use borrow.Rule.Slice.PartMut.{put_mid}
use Rattle.std.proofs.lemmas.List.{length-append}
use Rattle.std.proofs.lemmas.Slice.{overwrites}
use Rattle.octets.specs.Runs.{over}

-- a write right after a front, where the rest is as it was
pub grow : (p y out : List ℕ) (k e : ℕ) → length p ≡ k → k + length y ≡ e → put_mid k (e - k) (p ++ drop k out) y ≡ (p ++ y) ++ drop e out
grow p y out k e lp le = search (rules, overwrites)

pub four : (a b x d out : List ℕ) (k q r e : ℕ) → length a ≡ k → k + length b ≡ q → q + length x ≡ r → r + length d ≡ e
    → put_mid r (e - r) (put_mid q (r - q) (put_mid k (q - k) (a ++ drop k out) b) x) d ≡ over (a ++ b ++ x ++ d) out
four a b x d out k q r e la lb lx ld =
    let s1 = grow a b out k q la lb in
    let l2 : length (a ++ b) ≡ q = simp length-append (omega arith) in
    let s2 = grow (a ++ b) x out q r l2 lx in
    let l3 : length (a ++ b ++ x) ≡ r = simp length-append (omega arith) in
    let s3 = grow (a ++ b ++ x) d out r e l3 ld in
    let l4 : length (a ++ b ++ x ++ d) ≡ e = simp length-append (omega arith) in
    cc

-- what the four parts of a wrapper are, from what each step promised; t' is the telegram as it was put
pub wrapping : (hide seal : List ℕ → List ℕ) (a b x d l n m t t' : List ℕ) → a ≡ l → b ≡ n → t' ≡ t → x ≡ hide t' → m ≡ seal t' → d ≡ m
    → a ++ b ++ x ++ d ≡ l ++ n ++ hide t ++ seal t
wrapping hide seal a b x d l n m t t' ea eb et ex em ed = cc
