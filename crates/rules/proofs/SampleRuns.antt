-- The samples, computed. Assumes nothing.
use Rattle.std.proofs.Common.{refl}
use Rattle.frames.specs.Writing.{authenticate_lead, nonce, notice_lead, response_lead, wrapper_lead}
use Rattle.sealer.specs.Counter.{masked}
use Rattle.sealer.specs.Mac.{covered, mac_of, raw_mac}
use Rattle.rules.specs.Samples.{AllSamples}
use Rattle.rules.specs.MoreSamples.{FirstNotify, Lots, MoreSamples, OneMinute, WantedReply}

pub all_samples : AllSamples
unfolding mac_of raw_mac covered masked nonce wrapper_lead notice_lead response_lead authenticate_lead
all_samples = record {
  notice = refl;
  wrapper = (refl, refl);
  zero_twice = refl;
  small_timer = refl;
  edge_of_tolerance = (refl, refl);
  two_announces = refl;
  last_time = refl;
  ten_seconds = (refl, refl, refl);
  ninth_request = refl;
  tolerances = (refl, refl, refl);
}

-- apart, since one declaration may take only so many steps
one_minute : OneMinute
unfolding mac_of raw_mac covered masked nonce wrapper_lead notice_lead response_lead authenticate_lead
one_minute = (refl, refl)

first_notify : FirstNotify
unfolding mac_of raw_mac covered masked nonce wrapper_lead notice_lead response_lead authenticate_lead
first_notify = refl

wanted_reply : WantedReply
unfolding mac_of raw_mac covered masked nonce wrapper_lead notice_lead response_lead authenticate_lead
wanted_reply = (refl, refl)

lots : Lots
unfolding mac_of raw_mac covered masked nonce wrapper_lead notice_lead response_lead authenticate_lead
lots = (refl, refl, refl, refl, refl, refl, refl, refl)

pub more_samples : MoreSamples
unfolding mac_of raw_mac covered masked nonce wrapper_lead notice_lead response_lead authenticate_lead
more_samples = record {
  defaults = (refl, refl, refl, refl);
  statuses = (refl, refl, refl, refl, refl, refl);
  management = (refl, refl);
  closing = refl;
  one_minute = one_minute;
  own_serial = refl;
  first_notify = first_notify;
  wanted_reply = wanted_reply;
  lots = lots;
}
