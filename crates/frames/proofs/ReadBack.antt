-- What was written is read back. Assumes nothing.
use Rattle.std.proofs.Common.{◌≡◌, ℕ, ◌+◌, ◌-◌, ◌^◌, ◌<◌, ◌≤◌, true, leb, List, [], ◌++◌, length, get_or, take, Some, Ok, Option, sym, refl, ap, ◌∙◌, arith}
use Rattle.std.proofs.lemmas.List.{append_assoc, length-append, take_at, drop_at, take_all}
use Rattle.std.proofs.lemmas.Bool.Decides.{nat_tests}
use Rattle.std.proofs.lemmas.Bool.{le-leb}
use Rattle.sealer.specs.Sealing.{Sealed, Openings, Long, Wide, Complete}
use Rattle.octets.specs.Numbers.{value, octets_of}
use Rattle.octets.proofs.Laws.{value_of_octets}
use Rattle.frames.specs.Limits.{wrapper_overhead}
use Rattle.frames.specs.Headers.{part, kind, stated_length, stated_kind}
use Rattle.frames.specs.Reading.{reading, by_header, wrapper_shape, notice_shape, a_wrapper}
use Rattle.frames.specs.Sealing.{exchange_mac, exchange_data, zero_nonce}
use Rattle.frames.specs.Telegrams.{is_good, sign_in_of}
use Rattle.frames.specs.Writing.{nonce, wrapper_lead, notice_lead, notice, response, authenticate, authenticate_lead, response_lead}
use Rattle.frames.specs.declared.telegrams.Telegram.TheVariants.{Good}
use Rattle.frames.specs.Laws as law

two_back : (v : ℕ) → v < 2 ^ 16 → value (octets_of 2 v) ≡ v
two_back v h = value_of_octets 2 v ∙ omega arith

six_back : (v : ℕ) → v < 2 ^ 48 → value (octets_of 6 v) ≡ v
six_back v h = value_of_octets 6 v ∙ omega arith

-- octets that begin 06 10 and state their own length state their kind
stated : (f : List ℕ) (n k : ℕ) → length f ≡ n → 6 ≤ n → get_or f 0 0 ≡ 6 → get_or f 1 0 ≡ 16 → stated_length f ≡ n → kind f ≡ k → stated_kind f ≡ Some k
stated f n k el h e0 e1 es ek = grind (arith, nat_tests)

reads_wrapper : (f : List ℕ) → stated_kind f ≡ Some 0x0950 → 44 ≤ length f → length f ≤ 512 → reading f ≡ Ok (wrapper_shape f)
reads_wrapper f e low high = ap (λ (o : Option ℕ). by_header o f) e ∙ rw (le-leb (length f) 512 high, le-leb 44 (length f) low)

reads_notice : (f : List ℕ) → stated_kind f ≡ Some 0x0955 → length f ≡ 36 → reading f ≡ Ok (notice_shape f)
reads_notice f e l = ap (λ (o : Option ℕ). by_header o f) e ∙ rw (le-leb (length f) 512 (omega arith), l)

-- a front, a part and the end
middle : (h c m : List ℕ) (n k : ℕ) → length h ≡ k → length c ≡ n → part n k (h ++ c ++ m) ≡ c
middle h c m n k lh lc =
    let e1 = append_assoc h c m in
    let e2 = drop_at h (c ++ m) k lh in
    let e3 = take_at c m n lc in
    ap (part n k) e1 ∙ ap (take n) e2 ∙ e3

end : (h c m : List ℕ) (n k : ℕ) → length h + length c ≡ k → length m ≡ n → part n k (h ++ c ++ m) ≡ m
end h c m n k lk lm = ap (take n) (drop_at (h ++ c) m k (length-append h c ∙ lk)) ∙ take_all n m (omega arith)

-- a wrapper of any stated size that is its own
wrapper_back : (z session count serial tag : ℕ) (c m : List ℕ)
    → z ≡ length c + wrapper_overhead → session < 2 ^ 16 → count < 2 ^ 48 → serial < 2 ^ 48 → tag < 2 ^ 16
    → 6 ≤ length c → length c ≤ 474 → length m ≡ 16
    → reading (wrapper_lead z session ++ nonce count serial tag ++ c ++ m) ≡ Ok (a_wrapper session count serial tag (wrapper_lead z session) (nonce count serial tag) c m)
unfolding nonce wrapper_lead
wrapper_back z session count serial tag c m ez hs hc he ht low high lm =
    let h = wrapper_lead z session ++ nonce count serial tag in
    let f = h ++ c ++ m in
    let lf : length f ≡ z = length-append (h ++ c) m ∙ ap (λ n. n + length m) (length-append h c) ∙ omega arith in
    let st : stated_kind f ≡ Some 0x0950 = stated f z 0x0950 lf (omega arith) refl refl (two_back z (omega arith)) refl in
    let ec = middle h c m (length f - 38) 22 refl (omega arith) in
    let em = end h c m 16 (length f - 16) (omega arith) lm in
    reads_wrapper f st (omega arith) (omega arith)
    ∙ rw (two_back session hs, six_back count hc, six_back serial he, two_back tag ht, ec, em)

pub wrapper_read_back : law.WrapperReadBack
wrapper_read_back session count serial tag c m = wrapper_back (length c + wrapper_overhead) session count serial tag c m refl

-- the same under other names for what stands before the ciphertext
renamed : (ciphertext mac : Sealed) (key t l l' n n' f : List ℕ) (session count serial tag : ℕ) → l ≡ l' → n ≡ n'
    → reading f ≡ Ok (a_wrapper session count serial tag l' n' (ciphertext key n' l' t) (mac key n' l' t))
    → reading f ≡ Ok (a_wrapper session count serial tag l n (ciphertext key n l t) (mac key n l t))
renamed ciphertext mac key t l l' n n' f session count serial tag el en e = rw (el, en) e

pub sealed_wrapper_read_back : (ciphertext mac : Sealed) (opened : Openings) → Long ciphertext → Wide mac → Complete ciphertext mac opened → law.SealedWrapperReadBack ciphertext mac opened
sealed_wrapper_read_back ciphertext mac opened long wide complete key session count serial tag t l n lk hs hc he ht low high el en =
    let l' = wrapper_lead (length t + wrapper_overhead) session in
    let n' = nonce count serial tag in
    let c = ciphertext key n' l' t in
    let m = mac key n' l' t in
    let lc : length c ≡ length t = long key n' l' t in
    let back = wrapper_back (length t + wrapper_overhead) session count serial tag c m (omega arith) hs hc he ht (omega arith) (omega arith) (wide key n' l' t lk) in
    (renamed ciphertext mac key t l l' n n' (l' ++ n' ++ c ++ m) session count serial tag el en back, complete key n l t)

pub notice_read_back : law.NoticeReadBack
unfolding nonce notice_lead
notice_read_back time serial tag m hn he ht lm =
    let f = notice time serial tag m in
    let lf : length f ≡ 36 = length-append (notice_lead ++ nonce time serial tag) m ∙ omega arith in
    let st : stated_kind f ≡ Some 0x0955 = stated f 36 0x0955 lf (omega arith) refl refl refl refl in
    let em = end notice_lead (nonce time serial tag) m 16 20 refl lm in
    reads_notice f st lf ∙ rw (six_back time hn, six_back serial he, two_back tag ht, em)

pub response_read_back : law.ResponseReadBack
unfolding response_lead
response_read_back session y m hs ly lm =
    let h = response_lead session in
    let f = response session y m in
    let lf : length f ≡ 56 = length-append (h ++ y) m ∙ ap (λ n. n + length m) (length-append h y) ∙ omega arith in
    (stated f 56 0x0952 lf (omega arith) refl refl refl refl, lf, two_back session hs, middle h y m 32 8 refl ly, end h y m 16 40 (omega arith) lm)

pub sealed_notice_read_back : (mac : Sealed) → Wide mac → law.SealedNoticeReadBack mac
sealed_notice_read_back mac wide key time serial tag lk hn he ht =
    notice_read_back time serial tag (mac key (nonce time serial tag) notice_lead []) hn he ht (wide key (nonce time serial tag) notice_lead [] lk)

pub sealed_response_read_back : (mac : Sealed) → Wide mac → law.SealedResponseReadBack mac
sealed_response_read_back mac wide key session x y lk hs ly =
    response_read_back session y (exchange_mac mac key (response_lead session) x y) hs ly (wide key zero_nonce (exchange_data (response_lead session) x y) [] lk)

pub authenticate_read_back : law.AuthenticateReadBack
unfolding authenticate_lead
authenticate_read_back user m lm =
    let f = authenticate user m in
    let lf : length f ≡ 24 = length-append (authenticate_lead user) m ∙ omega arith in
    let st : stated_kind f ≡ Some 0x0953 = stated f 24 0x0953 lf (omega arith) refl refl refl refl in
    let em : part 16 8 f ≡ m = take_all 16 m (omega arith) in
    let e4 : leb 4 (length f) ≡ true = le-leb 4 (length f) (omega arith) in
    (rw e4, ap (λ (o : Option ℕ). sign_in_of o f) st ∙ rw (lf, em))

pub good_is_apart : law.GoodIsApart
good_is_apart t h = grind (arith, nat_tests)

pub good_is_good : law.GoodIsGood
good_is_good t family h =
    let g : is_good t ≡ true = grind (arith, nat_tests) in
    let e : Good (get_or t 2 0) ≡ Good family = sym (good_is_apart t g) ∙ h in
    let same : family ≡ get_or t 2 0 = cc in
    (g, same, λ nine. grind (arith, nat_tests))

pub no_session_read_back : law.NoSessionReadBack
no_session_read_back = (refl, refl, refl)

pub status_read_back : law.StatusReadBack
status_read_back code = (refl, refl)
