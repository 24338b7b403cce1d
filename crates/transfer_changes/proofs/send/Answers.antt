-- `transfer_changes::send` meets its contract. What acceptance says of the numbers puts the part inside the area, and the part that is lent comes back with the piece in it.
-- Assumes nothing.
use mathlib.Core.Path.{◌≡◌, ◌∙◌, ap}
use mathlib.Core.Bool.{false}
use mathlib.Core.List.{List, []}
use Prim.Native.Nat.{ℕ, ◌+◌, ◌-◌, ◌≤◌}
use native.Mathlib.Omega.{arith}
use lib.ListN.{length, take, drop}
use Rattle.rules.{specs.Bytes.{splice, number_at}, specs.declared.Transfer.{Transfer}, specs.Refusals.{verdict}}
use Rattle.rules.{specs.Transfer.{send_of, transfer_checks}, proofs.page.Accepted.{SendFits, send_fits}}
use Rattle.bytes_base.proofs.Parts.{rest, part_long, lent_copy}
use Rattle.transfer_changes.proofs.Pieces.{piece_short}
use Rattle.transfer_changes.proofs.send.Goals as goal
use Rattle.std.specs.Prelude.{Ok}

-- what acceptance says of the numbers that were read
fits : (t : Transfer) (q : List ℕ) {offset size : ℕ} → verdict (transfer_checks t 0 false (send_of q)) ≡ Ok tt
    → offset ≡ number_at 4 4 q → size ≡ number_at 4 8 q → SendFits t offset size (drop 12 q)
fits t q accepted offset_is size_is = rw (offset_is, size_is) (send_fits t (number_at 4 0 q) (number_at 4 4 q) (number_at 4 8 q) (drop 12 q) accepted)

pub slice_bounds-put_piece-end : goal.slice_bounds-put_piece-end
slice_bounds-put_piece-end c =
    let a = c.args in
    let f = fits a.t a.request.now (c.requires.by_index 0 false) c.read-offset.ensures c.read-size.ensures in omega (arith, c.requires.area_len)

pub put_piece-requires : goal.put_piece-requires
put_piece-requires c = let a = c.args in
    let f = fits a.t a.request.now (c.requires.by_index 0 false) c.read-offset.ensures c.read-size.ensures in
    let h : c.read-offset.result + c.read-size.result ≤ length a.area.now = omega (arith, c.requires.area_len) in
    let q = a.request.now in
    let short : c.read-size.result ≤ 512 =
    rw c.read-size.ensures (piece_short a.t (number_at 4 0 q) (number_at 4 4 q) (number_at 4 8 q) (drop 12 q) (c.requires.by_index 0 false)) in
    (rw (rest 12 q, part_long c.read-offset.result c.read-size.result a.area.now [] h) (omega arith), rw (rest 12 q) (omega (arith, f.whole, short)))

pub overflow_add-received : goal.overflow_add-received
overflow_add-received c =
    let a = c.args in
    let f = fits a.t a.request.now (c.requires.by_index 0 false) c.read-offset.ensures c.read-size.ensures in omega arith

pub returns : goal.returns
returns c = let a = c.args in
    let f = fits a.t a.request.now (c.requires.by_index 0 false) c.read-offset.ensures c.read-size.ensures in
    let h : c.read-offset.result + c.read-size.result ≤ length a.area.now = omega (arith, c.requires.area_len) in
    record {
      transfer_is = λ given. simp c.read-size.ensures;
      area_is = lent_copy c.read-offset.result c.read-size.result a.area.now _ h (drop 12 a.request.now) (omega arith)
          (c.put_piece.ensures ∙ ap (λ (z : List ℕ). splice 0 z (take (c.read-offset.result + c.read-size.result - c.read-offset.result) (drop c.read-offset.result a.area.now))) (rest 12 a.request.now))
          ∙ ap (λ (o : ℕ). splice o (drop 12 a.request.now) a.area.now) c.read-offset.ensures;
    }
