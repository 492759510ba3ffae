-- `capi::reading::kirruskabe_read_header` meets its contract.
-- Assumes nothing.
use mathlib.Core.Path.{refl, ap, ◌∙◌}
use mathlib.Core.List.{List}
use Prim.Native.Nat.{ℕ}
use lib.Dec.{eqb}
use borrow.Author.Tests.{eqb-true, eqb-false}
use Rattle.foundation.proofs.Tests.{either}
use Rattle.foundation.specs.Order.{first_failed}
use Rattle.packets.specs.Headers.{header_of, header_tests, read_header}
use Rattle.packets.proofs.HeaderReading.{given_is}
use Rattle.layouts.specs.Layouts.{header_octets}
use Rattle.layouts.specs.Lent.{Gives}
use Rattle.layouts.proofs.Giving.{gives_as, any_octets, by_outcome}
use Rattle.capi.specs.Answers.{header_found, header_read}
use Rattle.capi.proofs.PacketNumbers.{header_read_few}
use Rattle.capi.proofs.Making.{made_of}
use Rattle.capi.proofs.reading.kirruskabe_read_header.Goals as goal

-- the answer by the number of the tests
found : (h out after : List ℕ) (r : ℕ) → Gives 16 (first_failed (header_tests h), header_octets (header_of h)) out r after → Gives 16 (header_read h) out r after
unfolding header_read header_found read_header
found h out after r g =
    let n = first_failed (header_tests h) in
    either (eqb n 0) (λ t. rw t (gives_as refl (ap (λ (x : ℕ). (x, header_octets (header_of h))) (eqb-true n 0 t)) g))
    (λ t. rw t (any_octets n _ _ (eqb-false n 0 t) g))

pub returns : goal.returns
returns c =
    let h = c.args.header.now in
    let n = first_failed (header_tests h) in
    found h _ _ _
    (by_outcome n (header_octets (header_of h)) (made_of _ n (header_of h) _ (c.read.ensures ∙ given_is h) c.map.ensures.cases (λ y p. p)) (header_read_few h) c.give_result.ensures)
