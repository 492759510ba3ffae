-- `codes::block_field::info_octets` meets its contract.
-- Assumes nothing.
use mathlib.Core.Path.{◌∙◌}
use mathlib.Core.List.{[], ◌∷◌}
use lib.ListN.{get_or}
use Rattle.codes.proofs.FieldWords.{info_words}
use Rattle.codes.proofs.block_field.info_octets.Goals as goal

pub returns : goal.returns
returns c =
    let first = c.first_info in
    let p = c.octets_of-p.ensures in
    let last = c.last_info in
    let q = c.octets_of-q.ensures in
    (λ t. get_or (p t) 0 0 ∷ get_or (p t) 1 0 ∷ get_or (p t) 2 0 ∷ get_or (p t) 3 0 ∷ get_or (p t) 4 0 ∷ get_or (p t) 5 0 ∷ get_or (p t) 6 0 ∷ get_or (p t) 7 0
    ∷ get_or (q t) 0 0 ∷ get_or (q t) 1 0 ∷ get_or (q t) 2 0 ∷ get_or (q t) 3 0 ∷ [])
    ∙ info_words c.args.m first.result last.result first.ensures last.ensures
