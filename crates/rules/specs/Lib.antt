-- Document 01 as definitions, in the page's order, but for two: an image stands before the transfer that verifies it, and the module, the page's first
-- section, after the parts that it joins. Vocabulary first: tests, bytes, text.
--
-- One definition, read aloud (Transfer.antt):
--
--     start_checks : Transfer → (given : ℕ) (taken : Bool) → List Check
--     start_checks t given taken =
--         (t.phase is Receiving || t.phase is Verifying gives Status 7 1)
--         ∷ (t.phase is Staged gives Status 7 2)
--         ∷ (taken gives Status 8 0)
--         ∷ (given =? last_context gives Status 8 0)
--         ∷ []
--
-- "start_checks takes a transfer, the number of contexts given out and whether the area is taken, and gives a list of checks. Of a transfer t they are: if the phase of t
-- is Receiving, or the phase of t is Verifying, that gives status 7 with extended number 1; next, if the phase of t is Staged, that gives status 7 with 2; next, if the
-- area is taken, that gives status 8 with 0; next, if the number given out equals the last context, that gives status 8 with 0; and that is all." Of a list of checks
-- the first whose test is true decides, and where none is the call is accepted (`verdict`, Refusals.antt). So this is the page's "Start. Receiving or Verifying: 7/1.
-- Staged: 7/2. Every context given out: 8.", with document 02's area busy.
--
-- The signs, by what they are for:
--
-- A definition begins with `abbrev` or `unfoldable`, its name and, behind `:`, its type; the line below is what it says. `f x y` is f of x and y. `x.f` is the
-- field f of x; `(f x).g` is the field g of `f x`; `x.f y` is the field f of x, of y; `(a, b)` is a pair, and `p.0` and `p.1` are the two halves of one.
-- `λ m. ..` is "given m, ..". `record { f = a; g = b }` is the record with these fields. Circles in a name show where its parts go: `◌with_ticks◌` is
-- written `t with_ticks 0`. Where several lines begin with the name, they are cases: the line whose left side fits is the one that counts. Below
-- `module _ (M : A) where` every definition takes M first.
-- Numbers: ℕ is 0, 1, 2 and so on, of any size; `zero` and `suc n` are 0 and n + 1; `n - m` is 0 where m is the greater; `min n m` is the smaller; `/` and `%`
-- divide, without and for the remainder; `^` is a power; `0x` begins a number in base 16. ℤ is the whole numbers, those below 0 too: `pos n` is n, `neg_ℤ z` is
-- minus z.
-- Tests come out true or false, and their type ends in `Bool`: `=?`, `<?` and `≤?` compare two numbers; `&&` is and, `||` is or, `not` turns true and false round.
-- Lists: `[]` is empty, `a ∷ b` is a before the list b; `++` joins two lists; `take n` and `drop n` are a list's first n and all after them; `length s` is how
-- many s has; `replicate n a` is a, n times; `map f s` is f of each of s; `get_or s i d` is the one at place i, counted from 0, and d past the end. "\n" is a
-- line feed.
-- Types: `A → B → C` takes an A and a B and gives a C; `(n : A)` names what is taken, and in braces, `{h : A}`, it is left unwritten where it is used; `A × B` is a
-- pair of both. `data` lists the forms that a thing may have, `record` the fields that it has. What ends in `Type 0`, its name with a capital, is a sort of
-- thing, as `Event` is, or a statement, as `Honest` is.
-- Statements: `≡` is "equals", `≤` and `<` as usual, `<ℤ` too, `×` and, `⊎` or, `→` "if .., then ..", `↔` "exactly when", `⊥` never, `Unit {0}` always; `(x : A) → ..` is
-- "for every x". A `record` of statements holds where every one of its lines does; a line that names a thing, as `transfer : FinishedIn h` in `Due`, says that
-- there is one. A `data` of statements, as `ByMoves`, holds where one of its forms can be made.
-- Files: `use` says which file a name comes from; under `declared` stand the types of src/lib.rt. `pub` lets other files use the name. `--` begins a remark. Words
-- in quotes there are the page's or the demand's own; `..` stands for words left out, and what is in [ ] is added. "Assumes nothing" says that a file rests on
-- no unproved assumption.
-- How tightly signs bind, which `infix` lines say: `f x y` and `x.f` tightest; then, from tight to loose: `^`, `*` `/` `%`, `gets`, `∷`, `+` `-` `++`, `and_then`,
-- comparisons and `is`, `&&`, `||`, `implies` `unless`, `gives`, `with_..`, `if`, `≡`, `⊎`, `↔`, `→`.
pub mod Tests
pub mod Bytes
pub mod Text
pub mod Numbers
pub mod With
pub mod Record
pub mod Refusals
pub mod Table
pub mod Thresholds
pub mod Health
pub mod Image
pub mod Transfer
pub mod Security
pub mod Module
pub mod Cabinet
pub mod Log
pub mod Replay
pub mod Cases
pub mod Texts
-- Demand 2 has no statement of its own: the definitions above are it. `step` (Cabinet.antt) is the one result of each event, `replay_text` (Replay.antt) the one
-- text of each log; that the code gives exactly these is proved crate by crate.
-- Demand 1.
pub mod Demand1
-- Demand 3, over histories.
pub mod History
pub mod Transfers
pub mod Hosts
pub mod Sends
pub mod Moves
pub mod Demand3
-- Beside the demands.
pub mod Beside
-- Document 02.
pub mod Report
pub mod Made
-- T-03: the first fault, which a transfer keeps (Transfer.antt), and records from before.
pub mod Fault
pub mod Adopt
pub mod Reserved
pub mod Compare
pub mod TripsKept
-- T-09: two modules. The cabinet stands above (Record.antt, Cabinet.antt), and demand 3 is of both; here is what one module has of the other.
pub mod Apart
