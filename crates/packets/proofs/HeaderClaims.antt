-- The claims of headers hold.
-- Assumes nothing.
use mathlib.Core.Path.{sym}
use Rattle.packets.specs.Headers.{format_of}
use Rattle.packets.specs.HeaderClaims.{HeaderClaims}
use Rattle.packets.proofs.HeaderReading.{size-refused, check-refused, format-refused, accepted, number_is, 1-size, 8-check, 9-format, known-format, unknown_format, not_known}
use Rattle.packets.proofs.HeaderWriting.{number-within, number_wide, widths_else}
use Rattle.packets.proofs.HeaderBack.{answer_back}
use Rattle.packets.proofs.Reserved.{reserved_ignored}

pub claims : HeaderClaims
claims = record {
  written = λ h w. sym (number-within h w);
  reads_back = answer_back;
  too_wide = λ h w. sym (number_wide h (widths_else h w));
  number = number_is;
  size = λ h. (λ n. sym (size-refused h n), 1-size h);
  check = λ h s. (λ g. sym (check-refused h s g), 8-check h s);
  format = λ h s g. (λ n. sym (format-refused h s g (unknown_format (format_of h) n)), λ e. not_known (format_of h) (9-format h s e));
  fields = λ h s g a b. sym (accepted h s g (known-format (format_of h) a b));
  reserved = λ h k hs ks hg kg same. reserved_ignored h k same hs ks hg kg;
}
