-- `datagrams::labels_fit` meets its contract.
-- Assumes nothing.
use Rattle.std.proofs.Common.{◌≡◌, ◌^◌, ◌&&◌, ltb, refl, sym, ◌∙◌}
use Rattle.datagrams.proofs.DatagramWriting.{fits_by, and_first, and_second}
use Rattle.datagrams.proofs.labels_fit.Goals.{then-fits, else-fits, then-fits-2, else-fits-2}
use Rattle.datagrams.proofs.labels_fit.Goals as goal

pub returns-then-labels-lt2 : goal.returns-then-labels-lt2
returns-then-labels-lt2 c =
    let l = c.args.labels in
    let first : c.if-fits.value ≡ ltb l.source.0 (2 ^ 24) && ltb l.target.0 (2 ^ 24) =
    elim c.if-fits.branch [
      | then-fits w ↦ and_second _ _ _ (sym c.fits.ensures ∙ w.if-fits.true) (w.value-is ∙ w.fits-then-fits.ensures)
      | else-fits w ↦ and_first _ _ _ (sym c.fits.ensures ∙ w.if-fits.false) (w.value-is ∙ c.fits.ensures)
    ]
    in
    let second : c.if-fits-2.value ≡ c.if-fits.value && ltb l.timeslot 2 =
    elim c.if-fits-2.branch [
      | then-fits-2 w ↦ and_second _ _ _ w.if-fits-2.true w.value-is
      | else-fits-2 w ↦ and_first _ _ _ w.if-fits-2.false w.value-is
    ]
    in
    and_second _ _ _ c.if-labels-lt2.true refl ∙ sym (fits_by l _ _ first second)

pub returns-else-labels-lt2 : goal.returns-else-labels-lt2
returns-else-labels-lt2 c =
    let l = c.args.labels in
    let first : c.if-fits.value ≡ ltb l.source.0 (2 ^ 24) && ltb l.target.0 (2 ^ 24) =
    elim c.if-fits.branch [
      | then-fits w ↦ and_second _ _ _ (sym c.fits.ensures ∙ w.if-fits.true) (w.value-is ∙ w.fits-then-fits.ensures)
      | else-fits w ↦ and_first _ _ _ (sym c.fits.ensures ∙ w.if-fits.false) (w.value-is ∙ c.fits.ensures)
    ]
    in
    let second : c.if-fits-2.value ≡ c.if-fits.value && ltb l.timeslot 2 =
    elim c.if-fits-2.branch [
      | then-fits-2 w ↦ and_second _ _ _ w.if-fits-2.true w.value-is
      | else-fits-2 w ↦ and_first _ _ _ w.if-fits-2.false w.value-is
    ]
    in
    and_first _ _ _ c.if-labels-lt2.false refl ∙ sym (fits_by l _ _ first second)
