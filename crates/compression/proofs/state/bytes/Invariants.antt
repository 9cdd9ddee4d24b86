use Rattle.std.proofs.Common.{◌≡◌, ◌*◌, length, take}
use Rattle.compression.proofs.Words.{words_bytes}
use Rattle.compression.proofs.state.bytes.Given as goal

abbrev pub invariant-loop-i : goal.invariant-loop-i
invariant-loop-i l = (length l.out ≡ 32) × (take (l.i * 4) l.out ≡ words_bytes l.words l.i)
