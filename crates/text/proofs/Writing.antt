-- Laws of writing: one text after another is the two at once.
-- Assumes nothing.
use mathlib.Core.{Path.{◌≡◌, refl, sym, ◌∙◌, ap, subst}, List.{List, [], ◌∷◌, ◌++◌}}
use Prim.Native.Nat.{ℕ, ◌≤◌, ◌<◌, ◌+◌}
use native.Mathlib.{Nat.zero-add, Numerals.add-one, Omega.arith}
use lib.{ListN.{length, take, drop, set, length-append}, Seq.{set_split, take-append_seam}}
use Rattle.rules.specs.Bytes.{splice}
use Rattle.bytes_base.proofs.Parts.{splice_splice}
use Rattle.text.specs.Wrote.{Wrote}

pub and_then : {old mid new a b : List ℕ} {at i j : ℕ} → at ≤ length old → Wrote old at a mid i → Wrote mid i b new j → Wrote old at (a ++ b) new j
and_then {old} {mid} {new} {a} {b} {at} {i} {j} h p q =
    record {
      next_is = q.next_is ∙ ap (λ (k : ℕ). k + length b) p.next_is ∙ both;
      new_is = q.new_is ∙ ap (λ (k : ℕ). splice k b mid) p.next_is ∙ ap (splice (at + length a) b) p.new_is ∙ splice_splice at a b old h;
    }
  where
    both : at + length a + length b ≡ at + length (a ++ b)
    both = rw length-append (omega arith)

-- an equal text was written too
pub rewrote : {old new a b : List ℕ} {at i : ℕ} → a ≡ b → Wrote old at a new i → Wrote old at b new i
rewrote {old} {new} {a} {b} {at} {i} e p = subst (λ (t : List ℕ). Wrote old at t new i) e p

-- a store at a place writes one byte
pub wrote_byte : (old : List ℕ) (at byte : ℕ) → at < length old → Wrote old at (byte ∷ []) (set old at byte) (at + 1)
wrote_byte old at byte h =
    record { next_is = refl; new_is = set_split old at byte h ∙ ap (λ (k : ℕ). take at old ++ (byte ∷ drop k old)) (sym (add-one at)) }

-- what stands before the next place, where a text was written at the front, is the text
pub written : {old text new : List ℕ} {next : ℕ} → Wrote old 0 text new next → take next new ≡ text
written {old} {text} {new} w =
    ap (λ (k : ℕ). take k new) (w.next_is ∙ zero-add (length text)) ∙ ap (take (length text)) w.new_is ∙ take-append_seam text (drop (0 + length text) old)
