-- Laws of the report's text: names by their bits, a line, and the lines of a list.
-- Assumes nothing.
use Prim.Native.Nat.{ℕ, suc, ◌+◌, ◌*◌, ◌/◌, ◌%◌, ◌≤◌, ◌<◌}
use mathlib.Core.{Path.{◌≡◌, refl, sym, ◌∙◌, ap}, List.{List, [], ◌∷◌, ◌++◌, append_assoc, append-nil}}
use native.Mathlib.{Omega.arith}
use lib.{ListN.{length, get_or, take}, Seq.{take-suc, length-take-le}}
use Rattle.rules.specs.{Text.{ascii, decimal, field}, Compare.field_names}
use Rattle.text.{specs.Wrote.{Wrote, WroteWithin}, proofs.Writing.{and_then, rewrote}}
use Rattle.compare_text.specs.Lines.{name_if, names_of, entry_line, entry_lines, report_text}
use Rattle.rules.specs.Compare.{report}

-- three names one after another
pub three_names : {first second third : List ℕ} {old mid far new : List ℕ} {at i j k p q r : ℕ} → at ≤ length old
    → WroteWithin p old at first mid i → WroteWithin q mid i second far j → WroteWithin r far j third new k
    → WroteWithin (p + q + r) old at (first ++ (second ++ third)) new k
three_names {first} {second} {third} h x y z =
    record {
      within = omega (arith, x.within, y.within, z.within);
      wrote = rewrote (append_assoc first second third) (and_then h (and_then h x.wrote y.wrote) z.wrote);
    }

-- six names, three and three
six_names : (bits : ℕ) → (name_if bits (ascii " kind") ++ (name_if (bits / 2) (ascii " host") ++ name_if (bits / 4) (ascii " revision")))
    ++ (name_if (bits / 8) (ascii " function") ++ (name_if (bits / 8 / 2) (ascii " length") ++ name_if (bits / 8 / 4) (ascii " request"))) ≡ names_of bits field_names
six_names bits =
    let four : bits / 4 ≡ bits / 2 / 2 = omega arith in
    let eight : bits / 8 ≡ bits / 2 / 2 / 2 = omega arith in
    let sixteen : bits / 8 / 2 ≡ bits / 2 / 2 / 2 / 2 = omega arith in
    let last : bits / 8 / 4 ≡ bits / 2 / 2 / 2 / 2 / 2 = omega arith in
    rw (sixteen, last, four, eight, append_assoc, append_assoc, append-nil) refl

-- a line
pub line : (entry : ℕ) {old mid far last new : List ℕ} {at i j k n : ℕ} → at ≤ length old
    → WroteWithin 20 old at (decimal (entry / 64)) mid i
    → WroteWithin 19 mid i (name_if (entry % 64) (ascii " kind") ++ (name_if (entry % 64 / 2) (ascii " host") ++ name_if (entry % 64 / 4) (ascii " revision"))) far j
    → WroteWithin 24 far j (name_if (entry % 64 / 8) (ascii " function") ++ (name_if (entry % 64 / 8 / 2) (ascii " length") ++ name_if (entry % 64 / 8 / 4) (ascii " request"))) last k
    → Wrote last k (ascii "\n") new n → WroteWithin 64 old at (entry_line entry) new n
unfolding entry_line
line entry {at = at} {n = n} h w x y z =
    record {
      within = omega (arith, w.within, x.within, y.within, z.next_is);
      wrote = rewrote text (and_then h (and_then h (and_then h w.wrote x.wrote) y.wrote) z);
    }
  where
    d : List ℕ
    d = decimal (entry / 64)

    a : List ℕ
    a = name_if (entry % 64) (ascii " kind") ++ (name_if (entry % 64 / 2) (ascii " host") ++ name_if (entry % 64 / 4) (ascii " revision"))

    b : List ℕ
    b = name_if (entry % 64 / 8) (ascii " function") ++ (name_if (entry % 64 / 8 / 2) (ascii " length") ++ name_if (entry % 64 / 8 / 4) (ascii " request"))

    text : d ++ a ++ b ++ ascii "\n" ≡ d ++ names_of (entry % 64) field_names ++ ascii "\n"
    text = ap (λ (l : List ℕ). l ++ ascii "\n") (append_assoc d a b ∙ ap (λ (l : List ℕ). d ++ l) (six_names (entry % 64)))

-- the lines of one entry more
lines_both : (xs : List ℕ) (x : ℕ) → entry_lines (xs ++ (x ∷ [])) ≡ entry_lines xs ++ entry_line x
lines_both [] x = append-nil (entry_line x)
lines_both (y ∷ xs) x = ap (λ (l : List ℕ). entry_line y ++ l) (lines_both xs x) ∙ sym (append_assoc (entry_line y) (entry_lines xs) (entry_line x))

pub lines_on : (list : List ℕ) (i k : ℕ) {old mid new : List ℕ} {at j n : ℕ} → i < length list → suc i ≡ k → at ≤ length old
    → WroteWithin (64 * i) old at (entry_lines (take i list)) mid j → WroteWithin 64 mid j (entry_line (get_or list i 0)) new n
    → WroteWithin (64 * k) old at (entry_lines (take k list)) new n
lines_on list i k {old} {mid} {new} {at} {j} {n} h e a w x =
    record {
      within = omega (arith, w.within, x.within);
      wrote = rewrote (sym (lines_both (take i list) (get_or list i 0)) ∙ ap entry_lines (sym (take-suc list i 0 h)) ∙ ap (λ (m : ℕ). entry_lines (take m list)) e) (and_then a w.wrote x.wrote);
    }

-- the whole text of logs that were compared
pub whole : (l d n : ℕ) (list : List ℕ) {old mid far new : List ℕ} {i j k : ℕ} → d ≤ length list
    → WroteWithin 32 old 0 (ascii "leading " ++ field l "\n") mid i → WroteWithin (64 * length (take d list)) mid i (entry_lines (take d list)) far j
    → WroteWithin 32 far j (ascii "left " ++ field n "\n") new k → WroteWithin (64 * d + 64) old 0 (report_text (report l d n) list) new k
whole l d n list h w x y =
    let front : length (take d list) ≡ d = length-take-le d list h in
    record {
      within = omega (arith, w.within, x.within, y.within, front);
      wrote = rewrote (sym (append_assoc (ascii "leading " ++ field l "\n" ++ entry_lines (take d list)) (ascii "left ") (field n "\n")))
          (and_then (omega arith) (and_then (omega arith) w.wrote x.wrote) y.wrote);
    }
