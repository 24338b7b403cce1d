-- Document 01, "Which function index at which revision": the one table of functions, and function 0.
-- Assumes nothing.
use Rattle.std.specs.Prelude.{ℕ, ◌+◌}
use mathlib.Core.{Bool.{Bool, not, ◌&&◌}, List.{List, [], ◌∷◌}}
use Rattle.std.specs.Prelude.{length}
use Rattle.std.specs.Prelude.{if◌then◌else◌}
use Rattle.rules.specs.Tests.{◌≤?◌, ◌=?◌}
use Rattle.rules.specs.Bytes.{bit}
use Rattle.rules.specs.Refusals.{Check, ◌gives◌}
use Rattle.rules.specs.declared.{Refusal.TheVariants.Status, RequestLength.RequestLength, RequestLength.TheVariants.{Exactly, AtLeast}, Row.Row, Function.Function}
use Rattle.rules.specs.declared.Function.TheVariants.{Mask, GetHealth, GetThreshold, GetFwInfo, Start, Send, Finish, Query, SetThreshold, GetSecurityState, SetPassphrase, Disable, Unlock, Freeze, Unserved}

-- a row: the function, the first revision that serves it, its request bytes, exactly so many or these and any number after them, its answer bytes
abbrev row : Function → (since : ℕ) → RequestLength → (answer : ℕ) → Row
row function since request answer =
    record { function = function; since = since; request = request; answer = answer }

-- "Revision 1 serves 0 and 2. Revision 2 serves all." Function 0 "reads past its request"; a Send is "12 + piece". Document 02, T-04, adds: "Function 1, at
-- revisions 1 and 2, answers 132 bytes".
abbrev pub table : List (ℕ × Row)
table =
    (0, row Mask 1 (AtLeast 0) 4)
    ∷ (1, row GetHealth 1 (Exactly 0) 132)
    ∷ (2, row GetThreshold 1 (Exactly 0) 12)
    ∷ (12, row GetFwInfo 2 (Exactly 0) 44)
    ∷ (13, row Start 2 (Exactly 0) 8)
    ∷ (14, row Send 2 (AtLeast 12) 4)
    ∷ (15, row Finish 2 (Exactly 8) 4)
    ∷ (16, row Query 2 (Exactly 4) 12)
    ∷ (17, row SetThreshold 2 (Exactly 7) 4)
    ∷ (19, row GetSecurityState 2 (Exactly 0) 12)
    ∷ (20, row SetPassphrase 2 (Exactly 64) 4)
    ∷ (21, row Disable 2 (Exactly 32) 4)
    ∷ (22, row Unlock 2 (Exactly 32) 4)
    ∷ (23, row Freeze 2 (Exactly 0) 4)
    ∷ []

-- later than any revision that serves something
abbrev never : ℕ
never = 3

-- an index that the table lacks, to which status 1 comes first
abbrev pub unserved : Row
unserved = row Unserved never (AtLeast 0) 4

abbrev pub look_up : ℕ → List (ℕ × Row) → Row
look_up index [] = unserved
look_up index (line ∷ lines) = if index =? line.0 then line.1 else look_up index lines

unfoldable pub row_of : (index : ℕ) → Row
row_of index = look_up index table

-- revisions 1 and 2 serve what they or an earlier one began to serve; no later revision serves anything
abbrev pub served? : (revision : ℕ) → Row → Bool
served? revision r = r.since ≤? revision && revision ≤? 2

-- "status 1 | function not served at this revision"; "Function 0 is never refused by a status."
abbrev pub served_check : (revision index : ℕ) → Check
served_check revision index = not (served? revision (row_of index)) && not (index =? 0) gives Status 1 0

-- the request has the table's length
abbrev pub has_length? : RequestLength → (request : List ℕ) → Bool
has_length? (Exactly bytes) request = length request =? bytes
has_length? (AtLeast bytes) request = bytes ≤? length request

unfoldable pub fits? : Row → (request : List ℕ) → Bool
fits? r request = has_length? r.request request

-- "status 3 | length or field wrong": the length. "[Send gives] 3 if the request is under 12 bytes" stands here too.
abbrev pub length_check : (index : ℕ) (request : List ℕ) → Check
length_check index request = not (fits? (row_of index) request) gives Status 3 0

-- "bit k for function k"
abbrev pub bits : (revision : ℕ) → List (ℕ × Row) → ℕ
bits revision [] = 0
bits revision (line ∷ lines) = bit line.0 (served? revision line.1) + bits revision lines

-- "Function 0 answers 4 bytes of mask": "revision 2 gives 05 F0 FB 00, revision 1 gives 05 00 00 00, any other gives four zeros."
-- Document 02, T-04: "Function 0 gains bit 1 at both", so 07 in the place of 05.
unfoldable pub mask : (revision : ℕ) → ℕ
mask revision = bits revision table
