-- What the case list and the list of texts must have, so that neither loses a row, nor the machinery its eyes.
-- Assumes nothing.
use Rattle.std.specs.Prelude.{ℕ, ◌+◌}
use mathlib.Core.{Path.◌≡◌, Bool.{Bool, true}, List.{List, [], ◌∷◌, ◌++◌, map}}
use Rattle.std.specs.Prelude.{length, replicate}
use Rattle.std.specs.Prelude.{if◌then◌else◌}
use Rattle.rules.specs.With.{◌with_transfer◌, ◌with_phase◌, ◌with_received◌, ◌with_staged◌}
use Rattle.rules.specs.Record.{◌is◌, fresh, Whole, whole_of}
use Rattle.rules.specs.Cabinet.{Event, call, power, reading}
use Rattle.rules.specs.Text.{ascii}
use Rattle.rules.specs.Log.{entry_of}
use Rattle.rules.specs.Replay.{replay_start, whole_after, replay_text}
use Rattle.rules.specs.Cases.{Deed, ◌gets◌, passing, powering, taken, gives_R, Case, cases, failing}
use Rattle.rules.specs.Texts.{texts, log_of, text_of}
use Rattle.rules.specs.declared.{Entry.TheVariants.{Health, Bad}, Phase.Phase, Phase.TheVariants.{Idle, Receiving, Verifying, Staged, Failed}}
use Rattle.rules_demands.specs.Health.{measured}

-- a call to module 0 at revision 2, lent 132 bytes of this number
abbrev asks : (index : ℕ) (request : List ℕ) (lent : ℕ) → Event
asks index request lent = call 1 0 2 index request (replicate 132 lent)

abbrev row : List Deed → (Whole → Bool) → Case
row deeds ends = record { from = replay_start; deeds = deeds; ends = ends }

-- module 0 is in this phase
abbrev phase_is : Phase → Whole → Bool
phase_is phase w = w.cabinet.first.transfer.phase is phase

-- Rows that are wrong in one thing each, which the case list's machinery must see.
abbrev pub wrong_cases : List Case
wrong_cases =
    -- the length alone: the byte after the answer is the buffer's own
    row (asks 13 [] 255 gets (0 ∷ 0 ∷ 0 ∷ 0 ∷ 1 ∷ 0 ∷ 0 ∷ 0 ∷ 255 ∷ []) ∷ []) (λ w. true)
    -- a byte of the answer
    ∷ row (asks 13 [] 255 gets (0 ∷ 0 ∷ 0 ∷ 0 ∷ 2 ∷ 0 ∷ 0 ∷ 0 ∷ []) ∷ []) (λ w. true)
    -- a byte past the answer
    ∷ row (asks 13 [] 254 gets (0 ∷ 0 ∷ 0 ∷ 0 ∷ 1 ∷ 0 ∷ 0 ∷ 0 ∷ []) ∷ []) (λ w. true)
    -- a later answer: the second Start is refused 7/1
    ∷ row
    (asks 13 [] 255 gets (0 ∷ 0 ∷ 0 ∷ 0 ∷ 1 ∷ 0 ∷ 0 ∷ 0 ∷ [])
    ∷ asks 13 [] 255 gets (0 ∷ 0 ∷ 0 ∷ 0 ∷ 2 ∷ 0 ∷ 0 ∷ 0 ∷ [])
    ∷ [])
    (λ w. true)
    -- the end
    ∷ row (asks 13 [] 255 gets (0 ∷ 0 ∷ 0 ∷ 0 ∷ 1 ∷ 0 ∷ 0 ∷ 0 ∷ []) ∷ []) (phase_is Idle)
    -- the ticks that pass: seven are not eight
    ∷ row
    (asks 13 [] 255 gets (0 ∷ 0 ∷ 0 ∷ 0 ∷ 1 ∷ 0 ∷ 0 ∷ 0 ∷ [])
    ∷ asks 15 (0 ∷ 0 ∷ 0 ∷ 0 ∷ 1 ∷ 0 ∷ 0 ∷ 0 ∷ []) 255 gets (0 ∷ 0 ∷ 0 ∷ 0 ∷ [])
    ∷ passing 7
    ∷ [])
    (phase_is Failed)
    -- a reading: nothing is enabled, and so nothing has tripped
    ∷ row
    (taken 0 (measured 1 2 3)
    ∷ asks 1 [] 255 gets ((0 ∷ 0 ∷ 0 ∷ 0 ∷ 0x1A ∷ 0x02 ∷ 0 ∷ 0 ∷ 0 ∷ 0 ∷ 0 ∷ 0 ∷ 0 ∷ 1 ∷ 0 ∷ 1 ∷ 2 ∷ 0 ∷ 3 ∷ 0 ∷ []) ++ replicate 112 0)
    ∷ [])
    (λ w. true)
    -- a reading that is refused; one that is taken; another number
    ∷ row (taken 0 (measured 101 0 0) ∷ []) (λ w. true)
    ∷ row (gives_R 4 (reading 0 (measured 100 0 0)) ∷ []) (λ w. true)
    ∷ row (gives_R 3 (reading 0 (measured 101 0 0)) ∷ []) (λ w. true)
    -- a power cycle, after which no transfer goes on
    ∷ row (asks 13 [] 255 gets (0 ∷ 0 ∷ 0 ∷ 0 ∷ 1 ∷ 0 ∷ 0 ∷ 0 ∷ []) ∷ powering 0 ∷ []) (phase_is Receiving)
    -- the other module's power cycle, over which it does; and the other module's reading, which is not this one's
    ∷ row (asks 13 [] 255 gets (0 ∷ 0 ∷ 0 ∷ 0 ∷ 1 ∷ 0 ∷ 0 ∷ 0 ∷ []) ∷ powering 1 ∷ []) (phase_is Idle)
    ∷ row
    (taken 1 (measured 1 2 3)
    ∷ asks 1 [] 255 gets ((0 ∷ 0 ∷ 0 ∷ 0 ∷ 0x1A ∷ 0x02 ∷ 0 ∷ 0 ∷ 0 ∷ 0 ∷ 0 ∷ 0 ∷ 0 ∷ 1 ∷ 0 ∷ 0 ∷ 2 ∷ 0 ∷ 3 ∷ 0 ∷ []) ++ replicate 112 0)
    ∷ [])
    (λ w. true)
    -- a module that there is not, and one that there is
    ∷ row (gives_R 3 (power 2) ∷ []) (λ w. true)
    ∷ row (gives_R 5 (power 1) ∷ []) (λ w. true)
    ∷ []

-- Cabinets that are nearly the end of some row, each wrong in one thing: a version, a phase, the bytes received, a byte of the area, the other module's version.
abbrev near : Phase → (received staged other : ℕ) (area : List ℕ) → Whole
near phase received staged other area =
    whole_of (record {
      contexts = 1;
      first = fresh with_transfer (fresh.transfer with_phase phase with_received received with_staged staged);
      second = fresh with_transfer (fresh.transfer with_staged other);
    }) area

abbrev pub near_misses : List Whole
near_misses =
    near Staged 128 2 0 []
    ∷ near Verifying 128 1 0 []
    ∷ near Verifying 16383 0 0 (replicate 16380 7 ++ (1 ∷ 2 ∷ 3 ∷ 4 ∷ []))
    ∷ near Verifying 16384 0 0 (replicate 16380 7 ++ (1 ∷ 2 ∷ 3 ∷ 5 ∷ []))
    ∷ near Verifying 0 0 0 (replicate 16384 7)
    ∷ near Verifying 16380 0 0 (replicate 16383 7 ++ (8 ∷ []))
    ∷ near Verifying 16381 0 0 (replicate 16383 7 ++ (8 ∷ []))
    ∷ near Verifying 128 1 2 []
    ∷ near Verifying 128 2 1 []
    ∷ []

-- the numbers of the rows whose end a cabinet is not
abbrev pub not_the_end_of : (number : ℕ) → List Case → Whole → List ℕ
not_the_end_of number [] w = []
not_the_end_of number (c ∷ rows) w = (if c.ends w then [] else number ∷ []) ++ not_the_end_of (number + 1) rows w

-- the rows that look at the end
abbrev pub looking : List ℕ
looking = 4 ∷ 5 ∷ 6 ∷ 11 ∷ 12 ∷ 13 ∷ 23 ∷ []

pub record CasesHeld : Type 0 where
  pub hold : failing 0 cases ≡ []
  pub how_many : length cases ≡ 25
  pub how_long : map (λ c. length c.deeds) cases ≡ 1 ∷ 1 ∷ 1 ∷ 1 ∷ 1 ∷ 1 ∷ 1 ∷ 1 ∷ 2 ∷ 2 ∷ 2 ∷ 4 ∷ 5 ∷ 5 ∷ 12 ∷ 2 ∷ 7 ∷ 2 ∷ 7 ∷ 1 ∷ 5 ∷ 4 ∷ 13 ∷ 13 ∷ 7 ∷ []
  pub wrong_ones_fail : failing 0 wrong_cases ≡ 0 ∷ 1 ∷ 2 ∷ 3 ∷ 4 ∷ 5 ∷ 6 ∷ 7 ∷ 8 ∷ 9 ∷ 10 ∷ 11 ∷ 12 ∷ 13 ∷ 14 ∷ []
  pub ends_seen : map (not_the_end_of 0 cases) near_misses ≡ replicate 9 looking

-- a reading's record: spare 100, media 0501h, controller 8000h; bytes 1, 2 to 6, 7, 13 and 543 are these
abbrev pub reading_record : (first early before behind last : ℕ) → List ℕ
reading_record first early before behind last =
    4 ∷ first ∷ replicate 5 early ++ (before ∷ 100 ∷ 0x01 ∷ 0x05 ∷ 0x00 ∷ 0x80 ∷ behind ∷ replicate 529 0 ++ (last ∷ []))

pub record TextsHeld : Type 0 where
  pub print : map (λ row. replay_text (log_of row)) texts ≡ map text_of texts
  pub these : map text_of texts
      ≡ ascii "record kind status ext length\n0 call 0 0 8\n1 call 7 1 8\n2 tick\n3 short\nend receiving 1\nend idle 1\n"
      ∷ ascii "record kind status ext length\nend idle 0\nend idle 0\n"
      ∷ ascii "record kind status ext length\n0 call 0 0 8\n1 short\nend receiving 1\nend idle 1\n"
      ∷ ascii "record kind status ext length\n0 power\n1 bad\n2 call - - 4\nend idle 0\nend idle 0\n"
      ∷ ascii "record kind status ext length\n0 health\n1 bad\n2 call 0 0 132\nend idle 0\nend idle 0\n"
      ∷ ascii "record kind status ext length\n0 call 0 0 8\n1 call 0 0 4\nend verifying 1\nend idle 1\n"
      ∷ ascii "record kind status ext length\n0 call 0 0 8\n1 call 0 0 4\n2 tick\n3 tick\n4 tick\n5 tick\n6 tick\n7 tick\n8 tick\n9 tick\n10 call 7 3 12\nend failed 1 size 0\nend idle 1\n"
      ∷ ascii "record kind status ext length\n0 call 0 0 8\n1 call 0 0 4\n2 call 0 0 4\n3 tick\n4 tick\n5 tick\n6 tick\n7 tick\n8 tick\n9 tick\n10 tick\nend failed 1 sum 3\nend idle 1\n"
      ∷ ascii "record kind status ext length\n0 call 0 0 8\n1 call 0 0 4\n2 call 0 0 4\n3 tick\n4 tick\n5 tick\n6 tick\n7 tick\n8 tick\n9 tick\n10 tick\nend staged 1\nend idle 1\n"
      ∷ ascii "record kind status ext length\n0 call 0 0 8\n1 call 0 0 4\n2 call 0 0 4\n3 tick\n4 tick\n5 tick\n6 tick\n7 tick\n8 tick\n9 tick\n10 tick\nend failed 1 number 2\nend idle 1\n"
      ∷ ascii "record kind status ext length\n0 call 0 0 8\n1 call 0 0 4\n2 call 0 0 4\n3 tick\n4 tick\n5 tick\n6 tick\n7 tick\n8 tick\n9 tick\n10 tick\nend failed 1 count 1\nend idle 1\n"
      ∷ ascii "record kind status ext length\n0 call 0 0 8\n1 call 0 0 4\n2 call 0 0 4\n3 tick\n4 tick\n5 tick\n6 tick\n7 tick\n8 tick\n9 tick\n10 tick\nend failed 1 version 3\nend idle 1\n"
      ∷ ascii "record kind status ext length\n0 call 0 0 8\n1 call 0 0 4\n2 call 0 0 4\n3 tick\n4 tick\n5 tick\n6 tick\n7 tick\n8 tick\n9 tick\n10 tick\nend failed 1 version 0\nend idle 1\n"
      ∷ ascii "record kind status ext length\n0 call 0 0 8\n1 call 8 0 8\n2 power\n3 health\n4 power\n5 call 0 0 8\n6 bad\n7 bad\n8 bad\n9 bad\nend idle 2\nend receiving 2\n"
      ∷ []
  -- a reading's five bytes, each in its place; a byte beside them, before or behind; and what the replay's module 0 keeps
  pub five_bytes : entry_of (reading_record 0 0 0 0 0) ≡ Health 0 (measured 100 0x0501 0x8000)
  pub other_bytes : map entry_of (reading_record 1 0 0 0 0 ∷ reading_record 0 1 0 0 0 ∷ reading_record 0 0 1 0 0 ∷ reading_record 0 0 0 1 0 ∷ reading_record 0 0 0 0 1 ∷ [])
      ≡ replicate 5 Bad
  pub kept : (whole_after replay_start (reading_record 0 0 0 0 0) 1).cabinet.first.reading ≡ measured 100 0x0501 0x8000
  pub begins : replay_start ≡ record { cabinet = record { contexts = 0; first = fresh; second = fresh }; area = replicate 16384 0 }
