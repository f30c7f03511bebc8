-- What the law reads of frames that came in and went out. Assumes nothing.
use Rattle.std.proofs.Common.{◌≡◌, ℕ, ◌+◌, ◌*◌, ◌^◌, ◌<◌, ◌≤◌, Bool, true, false, cond, ◌&&◌, eqb, leb, List, [], ◌++◌, length, get_or, drop, Some, None, Ok, Err, Option, sym, refl, ap, ◌∙◌, arith}
use Rattle.std.proofs.lemmas.List.{length-drop, take_all, take-append-drop}
use Rattle.std.proofs.lemmas.Bool.{both_ways, eqb-true}
use Rattle.octets.proofs.Laws.{run_is_part}
use Rattle.octets.specs.Runs.{number, run}
use Rattle.frames.proofs.Inverted.{first_octets, from_header, from_notice, from_sign_in, from_wrapper, wrapper_is_its_parts}
use Rattle.frames.proofs.ReadBack.{sealed_notice_read_back, sealed_response_read_back, sealed_wrapper_read_back, status_read_back}
use Rattle.frames.specs.Headers.{part, stated_kind}
use Rattle.frames.specs.Limits.{wrapper_overhead}
use Rattle.frames.specs.Reading.{a_notice, a_wrapper, by_header, reading}
use Rattle.frames.specs.Sealing.{sealed_notice, sealed_response, wrapper}
use Rattle.frames.specs.Telegrams.{good_family, is_authenticate, is_status, sign_in, telegram_kind}
use Rattle.frames.specs.Writing.{authenticate, authenticate_lead, nonce, notice_lead, status, wrapper_lead}
use Rattle.frames.specs.declared.reading.Unreadable.TheVariants.{Header, Kind}
use Rattle.frames.specs.declared.telegrams.Telegram.TheVariants.{Authenticate, Status, Good, Other}
use Rattle.rules.specs.Law.{readable}
use Rattle.rules.specs.Meaning.{Meaning}
use Rattle.rules.proofs.Facts.{some_some}

-- A FRAME THAT WAS READ

-- what is known of a wrapper that was read
pub record WrapperRead (f : List ℕ) (n count serial tag : ℕ) (associated nc c m : List ℕ) : Type 0 where
  pub session : number 2 6 f ≡ n
  pub numbered : number 6 8 f ≡ count
  pub serial_is : number 6 14 f ≡ serial
  pub tag_is : number 2 20 f ≡ tag
  pub data_is : part 8 0 f ≡ associated
  pub nonce_is : part 14 8 f ≡ nc
  pub whole_is : associated ++ nc ++ c ++ m ≡ f

pub wrapper_read : (f : List ℕ) (n count serial tag : ℕ) (associated nc c m : List ℕ) → reading f ≡ Ok (a_wrapper n count serial tag associated nc c m)
    → WrapperRead f n count serial tag associated nc c m
wrapper_read f n count serial tag associated nc c m e =
    let p = (from_wrapper (stated_kind f) f n count serial tag associated nc c m e).2 in
    record {
      session = cc;
      numbered = cc;
      serial_is = cc;
      tag_is = cc;
      data_is = cc;
      nonce_is = cc;
      whole_is = sym (wrapper_is_its_parts f n count serial tag associated nc c m e).0;
    }

pub record NoticeRead (f : List ℕ) (time serial tag : ℕ) : Type 0 where
  pub time_is : number 6 6 f ≡ time
  pub serial_is : number 6 12 f ≡ serial
  pub tag_is : number 2 18 f ≡ tag

pub notice_read : (f : List ℕ) (time serial tag : ℕ) (associated nc m : List ℕ) → reading f ≡ Ok (a_notice time serial tag associated nc m) → NoticeRead f time serial tag
notice_read f time serial tag associated nc m e =
    let p = (from_notice (stated_kind f) f time serial tag associated nc m e).1 in
    record { time_is = cc; serial_is = cc; tag_is = cc }

-- A FRAME THAT WAS WRITTEN

-- the parts of a secure wrapper that was written
abbrev pub lead : ℕ → List ℕ → List ℕ
lead n t = wrapper_lead (length t + wrapper_overhead) n

abbrev pub cipher : Meaning → List ℕ → ℕ → ℕ → ℕ → ℕ → List ℕ → List ℕ
cipher M key n count serial tag t = M.ciphertext key (nonce count serial tag) (lead n t) t

abbrev pub code : Meaning → List ℕ → ℕ → ℕ → ℕ → ℕ → List ℕ → List ℕ
code M key n count serial tag t = M.mac key (nonce count serial tag) (lead n t) t

-- it is read back
pub wrapper_back : (M : Meaning) (key : List ℕ) (n count serial tag : ℕ) (t : List ℕ)
    → length key ≡ 16 → n < 2 ^ 16 → count < 2 ^ 48 → serial < 2 ^ 48 → tag < 2 ^ 16 → 6 ≤ length t → length t ≤ 474
    → reading (wrapper M.ciphertext M.mac key n count serial tag t)
    ≡ Ok (a_wrapper n count serial tag (lead n t) (nonce count serial tag) (cipher M key n count serial tag t) (code M key n count serial tag t))
wrapper_back M key n count serial tag t wide nb cb sb tb low high =
    (sealed_wrapper_read_back M.ciphertext M.mac M.opened M.long M.wide M.complete key n count serial tag t _ _ wide nb cb sb tb low high refl refl).0

-- a status has eight octets, and is read as one
pub status_back : (c : ℕ) → telegram_kind (status c) ≡ Status c
status_back c = (status_read_back c).1

-- a timer notify that was written is read back
pub notice_back : (M : Meaning) (key : List ℕ) (time serial tag : ℕ) → length key ≡ 16 → time < 2 ^ 48 → serial < 2 ^ 48 → tag < 2 ^ 16
    → reading (sealed_notice M.mac key time serial tag) ≡ Ok (a_notice time serial tag notice_lead (nonce time serial tag) (M.mac key (nonce time serial tag) notice_lead []))
notice_back M key time serial tag k t s g = sealed_notice_read_back M.mac M.wide key time serial tag k t s g

-- a session response is none of the frames that are read, and has 56 octets
module _ (M : Meaning) (key : List ℕ) (session : ℕ) (x y : List ℕ) (wide : length key ≡ 16) (sb : session < 2 ^ 16) (yl : length y ≡ 32) where
  pub response_unread : readable (reading (sealed_response M.mac key session x y)) ≡ None
  response_unread =
      ap (λ (o : Option ℕ). readable (by_header o (sealed_response M.mac key session x y))) (sealed_response_read_back M.mac M.wide key session x y wide sb yl).0
      ∙ either (leb (length (sealed_response M.mac key session x y)) 512) where
        either : (b : Bool) → readable (cond b (Err Kind) (Err Header)) ≡ None
        either true = refl
        either false = refl

  pub response_long : length (sealed_response M.mac key session x y) ≡ 56
  response_long = (sealed_response_read_back M.mac M.wide key session x y wide sb yl).1

-- A SESSION AUTHENTICATE

only_authenticate : (a b : Bool) (c : ℕ) (o : Option ℕ) → cond a Authenticate (cond b (Status c) (elim o [ Some family ↦ Good family | None ↦ Other ])) ≡ Authenticate → a ≡ true
only_authenticate true b c o e = refl
only_authenticate false true c o e = let z : ◌≡◌ {A = ℕ} 0 1 = cc in absurd (omega arith)
only_authenticate false false c (Some f) e = let z : ◌≡◌ {A = ℕ} 0 1 = cc in absurd (omega arith)
only_authenticate false false c None e = let z : ◌≡◌ {A = ℕ} 0 1 = cc in absurd (omega arith)

-- the parts of a test
five_true : (a b c d e : Bool) → (a && b && c && d && e) ≡ true → (a ≡ true) × (b ≡ true) × (c ≡ true) × (d ≡ true) × (e ≡ true)
five_true true true true true true e = (refl, refl, refl, refl, refl)
five_true true true true true false e = absurd (both_ways false refl e)
five_true true true true false z e = absurd (both_ways false refl e)
five_true true true false d z e = absurd (both_ways false refl e)
five_true true false c d z e = absurd (both_ways false refl e)
five_true false b c d z e = absurd (both_ways false refl e)

-- by what it begins with, no octet need be known to be one
pub signed_frame : (t : List ℕ) (user : ℕ) (m : List ℕ) → telegram_kind t ≡ Authenticate → sign_in t ≡ Some (user, m) → t ≡ authenticate user m
signed_frame t user m ek es =
    let a = five_true (leb 4 (length t)) (eqb (get_or t 0 0) 6) (eqb (get_or t 1 0) 16) (eqb (get_or t 2 0) 9) (eqb (get_or t 3 0) 83)
    (only_authenticate (is_authenticate t) (is_status t) (get_or t 6 0) (good_family t) ek) in
    let p = from_sign_in (stated_kind t) t user m es in
    let n : length t ≡ 24 = p.1 in
    let st : get_or t 4 0 * 256 + get_or t 5 0 ≡ 24 = omega (arith, (from_header t 0x0953 p.0).3) in
    let parts = some_some (get_or t 7 0, part 16 8 t) (user, m) p.3 in
    let u : get_or t 7 0 ≡ user = ap (λ (q : ℕ × List ℕ). q.0) parts in
    let last : drop 8 t ≡ m = sym (take_all 16 (drop 8 t) (simp length-drop (omega arith))) ∙ ap (λ (q : ℕ × List ℕ). q.1) parts in
    let lead : run 8 0 t ≡ authenticate_lead user =
    first_octets t user (eqb-true _ _ a.1) (eqb-true _ _ a.2) (eqb-true _ _ a.3) (eqb-true _ _ a.4) (omega arith) (omega arith) p.2 u in
    sym (take-append-drop 8 t)
    ∙ ap (λ (l : List ℕ). l ++ drop 8 t) (sym (run_is_part 8 0 t (omega arith)) ∙ lead)
    ∙ ap (λ (l : List ℕ). authenticate_lead user ++ l) last
