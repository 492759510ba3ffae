-- Events on the stored form, as functions for C take them: the stamp is one number.
-- Assumes nothing.
use Rattle.std.specs.Prelude.{◌≡◌, List, ℕ, ◌/◌, ◌%◌}
use Rattle.addresses.specs.declared.RadioAddress.{RadioAddress}
use Rattle.forms.specs.Forms.{Asked, event_number, form_after, line_after}

abbrev pub address_of : ℕ → RadioAddress
address_of own = record { 0 = own }

-- r is returned for what is asked of a form, and the form and the line hold what stands beside them afterwards
pub record Acts (asked : Asked) (stamp : ℕ) (form line : List ℕ) (r : ℕ) (form' line' : List ℕ) : Type 0 where
  pub returned : r ≡ event_number form line asked
  pub form_after_lem : form' ≡ form_after form (stamp / 256) (stamp % 256) line asked
  pub line_after_is : line' ≡ line_after form line asked
