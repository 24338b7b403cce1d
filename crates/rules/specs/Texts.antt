-- Document 01, "The replay program": logs and the texts that they print, as rows of one list: the page's own example, and beside it the empty log, a log that
-- ends in the middle of a record, and every line that the page names. Document 02, T-09, adds a last line for module 1. That each prints just this text is the claim `texts_claim` of proofs/page/Claim.antt.
-- Assumes nothing.
use Rattle.std.specs.Prelude.{ℕ, ◌-◌, List, [], ◌∷◌, ◌++◌, length, take}
use Rattle.rules.specs.Bytes.{le, zeros}
use Rattle.rules.specs.Text.{ascii}

-- a row: the log, and the text that it prints
infix 20 ◌prints◌
pub data Printed : Type 0 where
  ◌prints◌ : (log text : List ℕ) → Printed

abbrev pub log_of : Printed → List ℕ
log_of (log prints text) = log

abbrev pub text_of : Printed → List ℕ
text_of (log prints text) = text

-- records of a log: a host's call at revision 2, a tick, a power cycle, a health reading of this spare, and one of a kind that there is not
abbrev asks : (host index : ℕ) (request : List ℕ) → List ℕ
asks host index request =
    (1 ∷ host ∷ le 2 2) ++ le 2 index ++ le 2 (length request) ++ request ++ zeros (536 - length request)

abbrev ticks : List ℕ
ticks = 2 ∷ zeros 543

abbrev powers : List ℕ
powers = 3 ∷ zeros 543

abbrev reads : (spare : ℕ) → List ℕ
reads spare = 4 ∷ zeros 7 ++ (spare ∷ 0x01 ∷ 0x05 ∷ 0x00 ∷ 0x80 ∷ zeros 531)

-- a record of this kind with this host byte and nothing else
abbrev names : (kind host_byte : ℕ) → List ℕ
names kind host_byte = kind ∷ host_byte ∷ zeros 542

abbrev fifth_kind : List ℕ
fifth_kind = 5 ∷ zeros 543

abbrev eight_ticks : List ℕ
eight_ticks = ticks ++ ticks ++ ticks ++ ticks ++ ticks ++ ticks ++ ticks ++ ticks

-- the image of one record, version 1, of the page's cases, sent with context 1
abbrev sends_image : List ℕ
sends_image = asks 1 14 (le 4 1 ++ le 4 0 ++ le 4 128 ++ le 2 0 ++ le 2 1 ++ le 8 1 ++ zeros 112 ++ (0x01 ∷ 0x00 ∷ 0x01 ∷ 0x00 ∷ []))

-- a record with this number, count, version and sum; record i of an image of four, version 1, with this sum; and four records, sent with context 1
abbrev with_these : (number count version sum : ℕ) → List ℕ
with_these number count version sum = le 2 number ++ le 2 count ++ le 8 version ++ zeros 112 ++ le 4 sum

abbrev one_of_four : (i sum : ℕ) → List ℕ
one_of_four i sum = with_these i 4 1 sum

abbrev sends_four : (first second third fourth : List ℕ) → List ℕ
sends_four first second third fourth = asks 1 14 (le 4 1 ++ le 4 0 ++ le 4 512 ++ first ++ second ++ third ++ fourth)

-- four of which the last has a sum that is one too low
abbrev wrong_sum : List ℕ
wrong_sum = sends_four (one_of_four 0 0x40001) (one_of_four 1 0x40002) (one_of_four 2 0x40003) (one_of_four 3 0x40003)

-- four of which one has a wrong number, count or version, and the sum of what it has
abbrev wrong_number : List ℕ
wrong_number = sends_four (one_of_four 0 0x40001) (one_of_four 1 0x40002) (with_these 5 4 1 0x40006) (one_of_four 3 0x40004)

abbrev wrong_count : List ℕ
wrong_count = sends_four (one_of_four 0 0x40001) (with_these 1 3 1 0x30002) (one_of_four 2 0x40003) (one_of_four 3 0x40004)

abbrev wrong_version : List ℕ
wrong_version = sends_four (one_of_four 0 0x40001) (one_of_four 1 0x40002) (one_of_four 2 0x40003) (with_these 3 4 2 0x40005)

abbrev version_zero : List ℕ
version_zero = sends_four (with_these 0 4 0 0x40000) (one_of_four 1 0x40002) (one_of_four 2 0x40003) (one_of_four 3 0x40004)

abbrev finishes : List ℕ
finishes = asks 1 15 (zeros 4 ++ le 4 1)

abbrev heading : List ℕ
heading = ascii "record kind status ext length\n"

abbrev pub texts : List Printed
texts =
    -- "Start, Start by another host, tick, and 10 bytes over print exactly:"
    (asks 1 13 [] ++ asks 2 13 [] ++ ticks ++ zeros 10
    prints heading ++ ascii "0 call 0 0 8\n1 call 7 1 8\n2 tick\n3 short\nend receiving 1\nend idle 1\n")
    -- the empty log
    ∷ ([] prints heading ++ ascii "end idle 0\nend idle 0\n")
    -- a log that ends in the middle of its second record
    ∷ (asks 1 13 [] ++ take 272 finishes prints heading ++ ascii "0 call 0 0 8\n1 short\nend receiving 1\nend idle 1\n")
    -- "A power cycle prints `power`, a bad record `bad`, function 0 prints `call - - 4`."
    ∷ (powers ++ fifth_kind ++ asks 4 0 (zeros 3) prints heading ++ ascii "0 power\n1 bad\n2 call - - 4\nend idle 0\nend idle 0\n")
    -- document 02, T-04: "the replay prints `health`, .. and a record with spare over 100 is bad"; function 1 answers 132 bytes
    ∷ (reads 100 ++ reads 101 ++ asks 4 1 [] prints heading ++ ascii "0 health\n1 bad\n2 call 0 0 132\nend idle 0\nend idle 0\n")
    -- "The last line is phase in lower case and contexts": the phases that are left
    ∷ (asks 1 13 [] ++ finishes prints heading ++ ascii "0 call 0 0 8\n1 call 0 0 4\nend verifying 1\nend idle 1\n")
    ∷ (asks 1 13 [] ++ finishes ++ eight_ticks ++ asks 1 16 (le 4 1)
    prints heading
    ++ ascii "0 call 0 0 8\n1 call 0 0 4\n2 tick\n3 tick\n4 tick\n5 tick\n6 tick\n7 tick\n8 tick\n9 tick\n10 call 7 3 12\nend failed 1 size 0\nend idle 1\n")
    -- document 02, T-03: "as in `end failed 1 sum 3`"
    ∷ (asks 1 13 [] ++ wrong_sum ++ finishes ++ eight_ticks
    prints heading
    ++ ascii "0 call 0 0 8\n1 call 0 0 4\n2 call 0 0 4\n3 tick\n4 tick\n5 tick\n6 tick\n7 tick\n8 tick\n9 tick\n10 tick\nend failed 1 sum 3\nend idle 1\n")
    ∷ (asks 1 13 [] ++ sends_image ++ finishes ++ eight_ticks
    prints heading
    ++ ascii "0 call 0 0 8\n1 call 0 0 4\n2 call 0 0 4\n3 tick\n4 tick\n5 tick\n6 tick\n7 tick\n8 tick\n9 tick\n10 tick\nend staged 1\nend idle 1\n")
    -- and each other reason: in the third record, in the second, in the last, and a version of zero in the first
    ∷ (asks 1 13 [] ++ wrong_number ++ finishes ++ eight_ticks
    prints heading
    ++ ascii "0 call 0 0 8\n1 call 0 0 4\n2 call 0 0 4\n3 tick\n4 tick\n5 tick\n6 tick\n7 tick\n8 tick\n9 tick\n10 tick\nend failed 1 number 2\nend idle 1\n")
    ∷ (asks 1 13 [] ++ wrong_count ++ finishes ++ eight_ticks
    prints heading
    ++ ascii "0 call 0 0 8\n1 call 0 0 4\n2 call 0 0 4\n3 tick\n4 tick\n5 tick\n6 tick\n7 tick\n8 tick\n9 tick\n10 tick\nend failed 1 count 1\nend idle 1\n")
    ∷ (asks 1 13 [] ++ wrong_version ++ finishes ++ eight_ticks
    prints heading
    ++ ascii "0 call 0 0 8\n1 call 0 0 4\n2 call 0 0 4\n3 tick\n4 tick\n5 tick\n6 tick\n7 tick\n8 tick\n9 tick\n10 tick\nend failed 1 version 3\nend idle 1\n")
    ∷ (asks 1 13 [] ++ version_zero ++ finishes ++ eight_ticks
    prints heading
    ++ ascii "0 call 0 0 8\n1 call 0 0 4\n2 call 0 0 4\n3 tick\n4 tick\n5 tick\n6 tick\n7 tick\n8 tick\n9 tick\n10 tick\nend failed 1 version 0\nend idle 1\n")
    -- document 02, T-09: "In logs the host byte's high four bits name the module": Start of module 0, Start of module 1 (area busy), the power cycle and a reading of
    -- module 1, Start of module 1 after the power cycle of module 0; "a module over 1 makes the record bad", and so does a host byte of a power cycle whose low four
    -- bits are not zero, and any host byte of a tick but zero
    ∷ (asks 1 13 [] ++ asks 0x12 13 [] ++ names 3 0x10 ++ names 4 0x10 ++ names 3 0x00 ++ asks 0x12 13 [] ++ names 3 0x20 ++ names 3 0x11 ++ asks 0x21 13 [] ++ names 2 0x10
    prints heading
    ++ ascii "0 call 0 0 8\n1 call 8 0 8\n2 power\n3 health\n4 power\n5 call 0 0 8\n6 bad\n7 bad\n8 bad\n9 bad\nend idle 2\nend receiving 2\n")
    ∷ []
