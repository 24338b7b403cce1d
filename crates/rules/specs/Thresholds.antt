-- Document 01, "Thresholds".
-- Assumes nothing.
use Rattle.std.specs.Prelude.{ℕ, ◌%◌, List, [], ◌∷◌, ◌++◌}
use Rattle.rules.specs.Tests.{◌<?◌}
use Rattle.rules.specs.Bytes.{le, number_at, zeros}
use Rattle.rules.specs.Refusals.{Check, ◌gives◌}
use Rattle.rules.specs.declared.{Refusal.TheVariants.Status, Thresholds.Thresholds}

pub data ThresholdCall : Type 0 where
  GetThreshold : ThresholdCall
  SetThreshold : (enable spare media controller : ℕ) → ThresholdCall

-- "Enable (2 bytes, bits 0 to 2: spare, media, controller), spare (1), media temperature (2), controller temperature (2)"
abbrev pub threshold_bytes : Thresholds → List ℕ
threshold_bytes h = le 2 h.enable ++ le 1 h.spare ++ le 2 h.media ++ le 2 h.controller

-- a Set's request: the same seven bytes
abbrev pub set_threshold_of : (request : List ℕ) → ThresholdCall
set_threshold_of request =
    SetThreshold (number_at 2 0 request) (number_at 1 2 request) (number_at 2 3 request) (number_at 2 5 request)

-- Document 02, T-05: "Set Threshold with any of enable bits 3 to 15, is refused. Refusals: status 3, in the place of each function's first field check."
-- It replaces document 01's "Reserved bits and bytes of a request are read past", but for function 0's request (docs/DECISIONS.md, B21, B22).
-- Then "Set gives 3 if spare is over 100;"
abbrev pub threshold_checks : ThresholdCall → List Check
threshold_checks GetThreshold = []
threshold_checks (SetThreshold enable spare media controller) =
    (7 <? enable gives Status 3 0)
    ∷ (100 <? spare gives Status 3 0)
    ∷ []

-- "Get adds one zero byte."
abbrev pub threshold_answer : Thresholds → ThresholdCall → List ℕ
threshold_answer h GetThreshold = threshold_bytes h ++ zeros 1
threshold_answer h (SetThreshold enable spare media controller) = []

-- "else it stores all, with enable bits 3 to 15 cleared." "A temperature word is kept bit for bit". Since T-05 there is nothing left to clear
-- (`RequestT05` in Reserved.antt).
abbrev pub threshold_change : Thresholds → ThresholdCall → Thresholds
threshold_change h GetThreshold = h
threshold_change h (SetThreshold enable spare media controller) =
    record { enable = enable % 8; spare = spare; media = media; controller = controller }
