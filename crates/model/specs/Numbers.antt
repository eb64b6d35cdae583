-- The numbers that refusals and answers print.
use Rattle.std.specs.Prelude.{ℕ}
use Rattle.model.specs.declared.refusal.Refusal.{Refusal}
use Rattle.model.specs.declared.refusal.Refusal.TheVariants.{BadOrder, ShortMemory, NoVertex, SameVertex, IsStruck, IsJoined, NotJoined, NotStruck, NoRoom, OneVertex, Adjacent, BadDigits, BadFrame, OutOfTurn}
use Rattle.model.specs.declared.call.Answer.{Answer}
use Rattle.model.specs.declared.call.Answer.TheVariants.{Made, Joined, Parted, Struck, Lifted}

abbrev pub refusal_number : Refusal → ℕ
refusal_number BadOrder = 1
refusal_number ShortMemory = 2
refusal_number NoVertex = 3
refusal_number SameVertex = 4
refusal_number IsStruck = 5
refusal_number IsJoined = 6
refusal_number NotJoined = 7
refusal_number NotStruck = 8
refusal_number NoRoom = 9
refusal_number OneVertex = 10
refusal_number Adjacent = 11
refusal_number BadDigits = 12
refusal_number BadFrame = 13
refusal_number OutOfTurn = 14

abbrev pub answer_number : Answer → ℕ
answer_number Made = 0x81
answer_number Joined = 0x82
answer_number Parted = 0x83
answer_number Struck = 0x84
answer_number Lifted = 0x85
