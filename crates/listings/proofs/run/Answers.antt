-- `listings::run` meets its contract.
-- Assumes nothing.
use Rattle.std.proofs.lemmas.Result.{IfOk-weaker, on_ok_weaker}
use Rattle.inputs.specs.Inputs.{behind_own}
use Rattle.inputs.specs.declared.printing.Ended.{Ended}
use Rattle.inputs.proofs.Turns.{as_text}
use Rattle.inputs.proofs.Known.{written_as}
use Rattle.listings.specs.Listings.{listing_of}
use Rattle.listings.specs.declared.Lister.{Lister}
use Rattle.listings.proofs.Turning.{whole, fresh, listed_whole}
use Rattle.listings.proofs.run.Goals as goal

pub returns-clause-counted : goal.returns-clause-counted
returns-clause-counted g c =
    let a = c.args in
    let all = listed_whole a.listing a.own.now c.start.result c.start.ensures (λ j. (c.type_inv.own j).fits) in
    IfOk-weaker c.run_behind.result _ _ (λ (x : Ended). as_text {S = Lister} (behind_own whole a.own.now) (fresh a.listing c.start.result)
    (listing_of a.listing) a.own.now x.read x.written (λ os _. all os)) c.run_behind.ensures.counted

pub returns-clause-known : goal.returns-clause-known
returns-clause-known g c =
    let a = c.args in
    let all = listed_whole a.listing a.own.now c.start.result c.start.ensures (λ j. (c.type_inv.own j).fits) in
    on_ok_weaker c.run_behind.result (written_as {S = Lister} whole (fresh a.listing c.start.result) a.own.now (g.R.Read.remaining a.from.now)
    (g.W.Write.contents a.to.now) (g.W.Write.contents c.run_behind.new.to) (listing_of a.listing) a.own.now (λ os _. all os)) c.run_behind.ensures.known
