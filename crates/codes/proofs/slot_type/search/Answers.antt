-- `codes::slot_type::search` meets its contract: the loop keeps that the answer is that of the codewords below k.
-- Assumes nothing.
use Rattle.codes.proofs.SlotWords.{computed, parities, codeword_is}
use mathlib.Core.Path.{◌≡◌, refl, sym, ap, subst, ◌∙◌}
use mathlib.Core.List.{List}
use Prim.Native.Nat.{ℕ, suc, ◌+◌, ◌*◌, ◌-◌, ◌≤◌, ◌<◌}
use native.Mathlib.Omega.{arith}
use lib.Bits.{bit_xor}
use lib.Count.{ones, ones_in}
use lib.ListN.{get_or}
use Rattle.foundation.specs.Bits.{followed}
use Rattle.foundation.specs.Refusals.{refusal, outcome}
use Rattle.polynomials.specs.Remainder.{check, divide, reduce}
use Rattle.codes.specs.SlotWord.{with_remainder, slot_word, distance, near_below, slot_number, slot_data, slot_given}
use Rattle.codes.proofs.SlotReading.{hit, miss, none}
use Rattle.codes.proofs.slot_type.search.Goals as goal

pub loop-k-init : goal.loop-k-init
unfolding parities computed with_remainder ones_in check divide reduce followed
loop-k-init c = (refl, refl)

pub returns-then-word-codeword-le3 : goal.returns-then-word-codeword-le3
unfolding distance slot_given outcome slot_number slot_data
returns-then-word-codeword-le3 c =
    let w : ℕ = c.args.word in
    let t = c.loop-k in
    let k : ℕ = t.k - 1 in
    let same : t.k ≡ suc k = omega arith in
    let word : k * 4096 + c.from.result ≡ slot_word k = ap (λ (x : ℕ). k * 4096 + x) (c.from.ensures ∙ ap (λ (l : List ℕ). get_or l k 0) t.invariant.0) ∙ codeword_is k (omega arith) in
    let near : distance w (slot_word k) ≤ 3 = subst (λ (x : ℕ). ones (bit_xor w x) ≤ 3) word (omega arith) in
    ap slot_given (sym (t.invariant.1 ∙ ap (λ (n : ℕ). near_below n w) same ∙ hit k w near))

pub loop-k-preserved : goal.loop-k-preserved
unfolding distance
loop-k-preserved c =
    let w : ℕ = c.args.word in
    let t = c.loop-k in
    let k : ℕ = t.k - 1 in
    let same : t.k ≡ suc k = omega arith in
    let word : k * 4096 + c.from.result ≡ slot_word k = ap (λ (x : ℕ). k * 4096 + x) (c.from.ensures ∙ ap (λ (l : List ℕ). get_or l k 0) t.invariant.0) ∙ codeword_is k (omega arith) in
    let far : 3 < distance w (slot_word k) = subst (λ (x : ℕ). 3 < ones (bit_xor w x)) word (omega arith) in
    (t.invariant.0, t.invariant.1 ∙ ap (λ (n : ℕ). near_below n w) same ∙ miss k w far)

pub returns : goal.returns
unfolding slot_given outcome refusal slot_number
returns c =
    let w : ℕ = c.args.word in
    let over : c.loop-k.k ≡ 0 = omega arith in
    ap slot_given (sym (c.loop-k.invariant.1 ∙ ap (λ (n : ℕ). near_below n w) over ∙ none w))
