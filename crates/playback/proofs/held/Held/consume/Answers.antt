-- What is left in front is what stood behind the bytes that go. Assumes nothing.
use Rattle.std.proofs.Common.{ℕ, ◌+◌, ◌-◌, ◌≤◌, ◌≡◌, List, length, take, drop, ap, ◌∙◌, arith, length-take, length-drop}
use Rattle.std.proofs.lemmas.List.{drop-take}
use Rattle.std.proofs.lemmas.List.Edits.{take-paste}
use lib.Seq.{paste}
use Rattle.playback.proofs.held.Held.consume.Goals as goal

moved : (bytes : List ℕ) (n count : ℕ) → n ≤ count → count ≤ length bytes
    → take (count - n) (paste bytes 0 (drop n bytes) (count - n)) ≡ drop n (take count bytes)
moved bytes n count h k =
    let fits : count - n ≤ length (drop n bytes) = simp length-drop (omega arith) in
    let whole : n + (count - n) ≡ count = omega arith in
    let front = take-paste bytes 0 (drop n bytes) (count - n) (omega arith) fits in
    let behind = rw whole at (drop-take n (count - n) bytes) in
    rw behind (ap (λ (k : ℕ). take k (paste bytes 0 (drop n bytes) (count - n))) {x = count - n} {y = 0 + (count - n)} (omega arith) ∙ front)

pub returns : goal.returns
returns c =
    let within = simp length-take at (rw (← c.self.view_is) at c.requires) in
    rw (← c.self.view_is, c.copy_within.ensures.after)
    (moved c.self.inside.bytes c.args.count c.self.inside.count (omega (arith, within)) (omega (arith, c.self.invariant, c.self.told)))
