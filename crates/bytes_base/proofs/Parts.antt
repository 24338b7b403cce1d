-- Laws of a part that is lent and comes back, and of what is written over a list.
use mathlib.Core.{Path.{◌≡◌, refl, sym, ◌∙◌, ap}, List.{List, [], ◌++◌, append_assoc, append-nil}}
use Prim.Native.Nat.{ℕ, ◌≤◌, ◌+◌, ◌-◌}
use native.Mathlib.{Nat.add-sub_cancel_left, Omega.arith}
use lib.{ListN.{length, take, drop, length-append, length-drop, drop_of_length-le}, Seq.{take_at, take_all, drop_at, drop-drop, length-take-le}}
use borrow.Rule.Slice.PartMut.{put_mid, Post-is, mid_len}
use Rattle.rules.{specs.Bytes.{splice, le}, proofs.page.Le.length_le}

-- the whole, once a part from a to e has come back as ys
pub lent : (a e : ℕ) (xs ys : List ℕ) → a ≤ e → a + length ys ≡ e → put_mid a (e - a) xs ys ≡ splice a ys xs
lent a e xs ys h l = ap (λ (z : List ℕ). take a xs ++ (ys ++ z)) (Post-is a e xs h ∙ ap (λ (k : ℕ). drop k xs) (sym l))

-- the same where the k elements from a on were filled with the bytes of a number, or copied over
module _ (a k : ℕ) (xs ys : List ℕ) (h : a + k ≤ length xs) where
  pub part_long : length (take (a + k - a) (drop a xs)) ≡ k
  part_long = mid_len a (a + k) xs h ∙ add-sub_cancel_left a k

  pub lent_as : (zs : List ℕ) → length zs ≡ k → ys ≡ zs → put_mid a (a + k - a) xs ys ≡ splice a zs xs
  lent_as zs l e =
      lent a (a + k) xs ys (omega arith) (ap (λ (n : ℕ). a + n) (ap length e ∙ l)) ∙ ap (λ (w : List ℕ). splice a w xs) e

  pub lent_le : (n : ℕ) → ys ≡ le (length (take (a + k - a) (drop a xs))) n → put_mid a (a + k - a) xs ys ≡ splice a (le k n) xs
  lent_le n e = lent_as (le k n) (length_le k n) (e ∙ ap (λ (j : ℕ). le j n) part_long)

  pub lent_copy : (zs : List ℕ) → length zs ≡ k → ys ≡ splice 0 zs (take (a + k - a) (drop a xs)) → put_mid a (a + k - a) xs ys ≡ splice a zs xs
  lent_copy zs l e =
      let short : length (take (a + k - a) (drop a xs)) ≤ 0 + length zs = rw part_long (omega arith) in
      let none : drop (0 + length zs) (take (a + k - a) (drop a xs)) ≡ [] = drop_of_length-le _ short in
      lent_as zs l (e ∙ ap (λ (w : List ℕ). zs ++ w) none ∙ append-nil zs)

-- what is written next to what was written at the front
pub splice_next : (done new old : List ℕ) (at : ℕ) → length done ≡ at
    → splice at new (done ++ drop at old) ≡ (done ++ new) ++ drop (length (done ++ new)) old
splice_next done new old at e =
    rw (take_at done (drop at old) at e, ← drop-drop (length new) at, drop_at done (drop at old) at e, append_assoc, length-append, e, drop-drop) refl

-- what is written right behind what was written
pub splice_splice : (at : ℕ) (a b old : List ℕ) → at ≤ length old → splice (at + length a) b (splice at a old) ≡ splice at (a ++ b) old
splice_splice at a b old h =
    let p : List ℕ = take at old ++ a in
    let long : length p ≡ at + length a = length-append (take at old) a ∙ ap (λ (k : ℕ). k + length a) (length-take-le at old h) in
    let both : length (p ++ b) ≡ at + length (a ++ b) = rw (length-append, long, length-append) (omega arith) in
    ap (splice (at + length a) b) (sym (append_assoc (take at old) a (drop (at + length a) old)))
    ∙ splice_next p b old (at + length a) long
    ∙ ap (λ (k : ℕ). p ++ b ++ drop k old) both
    ∙ ap (λ (l : List ℕ). l ++ drop (at + length (a ++ b)) old) (append_assoc (take at old) a b)
    ∙ append_assoc (take at old) (a ++ b) (drop (at + length (a ++ b)) old)

-- the part from k on, as the code's range has it
pub rest : (k : ℕ) (l : List ℕ) → take (length l - k) (drop k l) ≡ drop k l
rest k l = take_all (length l - k) (drop k l) (rw length-drop (omega arith))

-- a copy over all of a list
pub copy_whole : (from to : List ℕ) → length to ≤ length from → splice 0 from to ≡ from
copy_whole from to h =
    let short : length to ≤ 0 + length from = omega arith in
    let none : drop (0 + length from) to ≡ [] = drop_of_length-le to short in
    ap (λ (z : List ℕ). from ++ z) none ∙ append-nil from
