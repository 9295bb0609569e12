-- The refusals by name; 0 is accepted. src/refusals.rt and the project's README have the same names. Document 01, 'Refusals',
-- has 1 to 10; brake curves (Ticket 1) add 11 to 13, memory from another product (Ticket 4) adds 14, wheel turns (Ticket 7)
-- add 15 and 16, chips that store by page (Ticket 9) add 17 and 18, ride and rider saved together (Ticket 10) adds 19 to 21, rider,
-- gym, service (Ticket 11) adds 22.
use Rattle.std.specs.Prelude.{ℕ, Result, Ok, Err}
use Rattle.model.specs.declared.refusals.Refusal.{Refusal}
use Rattle.model.specs.declared.refusals.Refusal.TheVariants.{BadCount, BadWidth, ShortImage, BadJob, WrongPhase, NoUnit, WrongSize, BadMarker, BadLevel, BadRate, NoRoom, BadLine, BadEntry, ForeignMarker, SumTooLarge, NoTotal, BadPage, WrongTear, BadGroup, UnitTaken, NoRecord, NoRight}

abbrev pub BAD-COUNT : ℕ
BAD-COUNT = 1

abbrev pub BAD-WIDTH : ℕ
BAD-WIDTH = 2

abbrev pub SHORT-IMAGE : ℕ
SHORT-IMAGE = 3

abbrev pub BAD-JOB : ℕ
BAD-JOB = 4

abbrev pub WRONG-PHASE : ℕ
WRONG-PHASE = 5

abbrev pub NO-UNIT : ℕ
NO-UNIT = 6

abbrev pub WRONG-SIZE : ℕ
WRONG-SIZE = 7

abbrev pub BAD-MARKER : ℕ
BAD-MARKER = 8

abbrev pub BAD-LEVEL : ℕ
BAD-LEVEL = 9

abbrev pub BAD-RATE : ℕ
BAD-RATE = 10

abbrev pub NO-ROOM : ℕ
NO-ROOM = 11

abbrev pub BAD-LINE : ℕ
BAD-LINE = 12

abbrev pub BAD-ENTRY : ℕ
BAD-ENTRY = 13

abbrev pub FOREIGN-MARKER : ℕ
FOREIGN-MARKER = 14

abbrev pub SUM-TOO-LARGE : ℕ
SUM-TOO-LARGE = 15

abbrev pub NO-TOTAL : ℕ
NO-TOTAL = 16

abbrev pub BAD-PAGE : ℕ
BAD-PAGE = 17

abbrev pub WRONG-TEAR : ℕ
WRONG-TEAR = 18

abbrev pub BAD-GROUP : ℕ
BAD-GROUP = 19

abbrev pub UNIT-TAKEN : ℕ
UNIT-TAKEN = 20

abbrev pub NO-RECORD : ℕ
NO-RECORD = 21

abbrev pub NO-RIGHT : ℕ
NO-RIGHT = 22

abbrev pub number_of : Refusal → ℕ
number_of BadCount = BAD-COUNT
number_of BadWidth = BAD-WIDTH
number_of ShortImage = SHORT-IMAGE
number_of BadJob = BAD-JOB
number_of WrongPhase = WRONG-PHASE
number_of NoUnit = NO-UNIT
number_of WrongSize = WRONG-SIZE
number_of BadMarker = BAD-MARKER
number_of BadLevel = BAD-LEVEL
number_of BadRate = BAD-RATE
number_of NoRoom = NO-ROOM
number_of BadLine = BAD-LINE
number_of BadEntry = BAD-ENTRY
number_of ForeignMarker = FOREIGN-MARKER
number_of SumTooLarge = SUM-TOO-LARGE
number_of NoTotal = NO-TOTAL
number_of BadPage = BAD-PAGE
number_of WrongTear = WRONG-TEAR
number_of BadGroup = BAD-GROUP
number_of UnitTaken = UNIT-TAKEN
number_of NoRecord = NO-RECORD
number_of NoRight = NO-RIGHT

-- what a call comes to: 0, or its refusal's number
abbrev pub numbered : {A : Type 0} → Result A Refusal → ℕ
numbered (Ok a) = 0
numbered (Err r) = number_of r
