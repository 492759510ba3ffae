-- Demand 3 and what stands beside it.
-- Assumes nothing.
use mathlib.Core.Path.{sym, ap, subst, ◌∙◌}
use mathlib.Core.Bool.{true}
use Rattle.history.specs.History.{nothing, said_from}
use Rattle.history.specs.Claims.{Once, HistoryClaims}
use Rattle.history.proofs.Demand3.{demand3, savable}
use Rattle.history.proofs.Once.{once_history}
use Rattle.history.proofs.Refused.{refused_changes_nothing}
use Rattle.history.proofs.Delivered.{delivered_history}
use Rattle.history.specs.Run.{events}

pub claims : HistoryClaims
claims = record {
  demand3 = demand3;
  once = λ own store actions small room o.
      subst (Once true) (sym (demand3 own store actions small room o).answers_are) (once_history own (events actions));
  refused_changes_nothing = refused_changes_nothing;
  delivered = λ m d store actions short within room o e.
      (demand3 d.destination store actions within.destination room o).answers_are
      ∙ ap (said_from d.destination nothing) e ∙ delivered_history m d short within;
  savable = savable;
}
