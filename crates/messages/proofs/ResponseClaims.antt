-- The claims of responses hold.
-- Assumes nothing.
use mathlib.Core.Path.{ap}
use Rattle.messages.specs.ResponseClaims.{ResponseClaims}
use Rattle.messages.specs.Responses.{ResponseWritten}
use Rattle.messages.proofs.ResponseReading.{number_exactly, refused-zeros, read-unlooked, response-written, response_unwritten, answer_back, ack_back, nack_back}

pub responses : ResponseClaims
responses = record {
  written = λ r d flags w. ap (λ (a : ResponseWritten). a.number) (response-written r d w flags);
  too_wide = response_unwritten;
  reads_back = answer_back;
  ack_alone = λ d flags b w. ack_back d flags w b;
  nack_alone = λ d flags b w. nack_back d flags w b;
  unlooked = read-unlooked;
  numbers = number_exactly;
  refused = refused-zeros;
}
