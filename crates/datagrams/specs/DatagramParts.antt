-- What the private functions of a datagram ask of one another. The public promises do not name it.
-- Assumes nothing.
use Rattle.std.specs.Prelude.{Bool, ◌==◌}
use Rattle.foundation.specs.Order.{first_failed}
use Rattle.datagrams.specs.Datagrams.{label_tests}
use Rattle.datagrams.specs.declared.Labels.{Labels}

-- all labels are within their widths
unfoldable pub labels_fit : Labels → Bool
labels_fit l = first_failed (label_tests l) == 0
