-- One digit a turn: `Read` says what is read so far, and each way out is a law of WordLaws.antt.
use Rattle.text.proofs.WordLaws.{Read}
use Rattle.text.proofs.word.Given as goal

abbrev pub invariant-loop-byte : goal.invariant-loop-byte
invariant-loop-byte l = Read l.base l.s l.v l.byte-index
