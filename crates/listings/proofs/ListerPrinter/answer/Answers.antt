-- `answer` of `listings::Lister` meets its contract.
-- Assumes nothing.
use Rattle.std.proofs.Common.{◌≡◌, length, sym, subst, ◌∙◌, refl, arith}
use Rattle.captures.specs.Captures.{running, ListAnswer}
use Rattle.captures.specs.Claims.{ListClaims}
use Rattle.captures.proofs.Lists.{taken_ok, taken_as}
use Rattle.receiver_state.specs.Receiver.{store_size}
use Rattle.listings.proofs.Turning.{line_fits, few_left}
use Rattle.listings.proofs.ListerPrinter.answer.Goals as goal

pub unwrap-listed-requires : goal.unwrap-listed-requires
unwrap-listed-requires c =
    let a = c.args in
    let s = a.self.now in
    taken_ok s.listing s.gateway s.store a.octets.now a.last a.text.now (omega arith) (line_fits s.listing (length a.text.now) (omega arith)) _ c.list.ensures.0

pub returns : goal.returns
returns c =
    let a = c.args in
    let s = a.self.now in
    let l = c.list in
    let r = c.unwrap-listed.result in
    let room : length s.store ≡ store_size = omega arith in
    let line = line_fits s.listing (length a.text.now) (omega arith) in
    let same = taken_as s.listing s.gateway s.store a.octets.now a.last a.text.now room line r (sym c.unwrap-listed.ensures ∙ l.ensures.0) in
    let claims : ListClaims s.listing (running s.gateway s.store) a.octets.now a.last a.text.now (record { number = 0; gateway = r.gateway; taken = r.taken; end = r.end }) l.new.store l.new.text =
    subst (λ (x : ListAnswer). ListClaims s.listing (running s.gateway s.store) a.octets.now a.last a.text.now x l.new.store l.new.text) (sym same) l.ensures.3 in
    record {
      goes_on = claims.goes_on refl;
      ends = omega (arith, claims.ends, l.auto.text);
      takes = claims.takes;
      takes_last = claims.takes_on refl;
      takes_full = few_left s.listing s.gateway s.store a.octets.now a.text.now a.last _ room line same;
    }
