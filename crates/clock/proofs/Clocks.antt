-- The definitions on a clock are the rules'. Assumes nothing.
use Rattle.std.proofs.Common.{◌≡◌, ℕ, Bool, true, false, cond, ltb, refl}
use Rattle.rules.specs.GroupTime.{reply_time, within}
use Rattle.rules.specs.Making.{latency, sync}
use Rattle.rules.specs.Model.{Model}
use Rattle.rules.specs.declared.settings.Settings.{Settings}
use Rattle.clock.specs.Laws.{HeardIsTheRule, NewIsTheRule, NotifiedIsTheRule, PassedIsTheRule, SentIsTheRule, gateway_of}
use Rattle.clock.specs.Times.{asked, followed, reply_in}
use Rattle.clock.specs.declared.group.Group.{Group}

-- a function of a choice is a choice of its values
at_cond : (f : Group → Model) (b : Bool) (x y : Group) (p q : Model) → p ≡ f x → q ≡ f y → cond b p q ≡ f (cond b x y)
at_cond f true x y p q e d = e
at_cond f false x y p q e d = d

reply_is : (set : Settings) (keeper : Bool) (lot : ℕ) → reply_time set keeper lot ≡ reply_in (sync set) keeper lot
reply_is set true lot = refl
reply_is set false lot = refl

pub new_is_the_rule : NewIsTheRule
new_is_the_rule set = refl

pub heard_is_the_rule : HeardIsTheRule
heard_is_the_rule set g held sessions time serial tag lot =
    let f : Group → Model = λ c. gateway_of c held sessions in
    let S = sync set in
    at_cond f (ltb g.timer time) (followed S g time lot) _ _ _ refl
    (at_cond f (within g.timer S time) (followed S g g.timer lot) _ _ _ refl
    (at_cond f (within g.timer (latency set) time) g (asked S g serial tag lot) _ _ refl
    (rw (reply_is set g.keeper lot) refl)))

pub passed_is_the_rule : PassedIsTheRule
passed_is_the_rule set M g held sessions ms = refl

pub sent_is_the_rule : SentIsTheRule
sent_is_the_rule g held sessions time = refl

pub notified_is_the_rule : NotifiedIsTheRule
notified_is_the_rule set g held sessions time lot = refl
