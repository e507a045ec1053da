use Rattle.std.proofs.Common.{◌≡◌, ◌+◌, ◌∷◌, get_or, take, drop, sym, ap, ◌∙◌, arith}
use Rattle.std.proofs.lemmas.List.{at_drop_more, at_drop_all, length-drop, take_all}
use Rattle.layout.specs.Names.{letters_then_zeros}
use Rattle.layout.proofs.Names.{ends, ends-zero, ends-letter, ends-none, formed}
use Rattle.layout.proofs.name.is_well_formed.Goals as goal
use Rattle.layout.proofs.name.is_well_formed.Goals.{then-byte-eq0, else-byte-eq0+else-ended+else-not-is_letter-2}

pub loop-byte-preserved : goal.loop-byte-preserved
loop-byte-preserved c =
    let rest = take 7 (drop 1 c.args.name.now) in
    let i = c.loop-byte.byte-index in
    let ended = c.loop-byte.ended in
    let next = c.if-byte-eq0.ended in
    let byte = get_or rest i 0 in
    let after = drop (i + 1) rest in
    let here = at_drop_more (ends ended) rest i 0 (omega arith) in
    let step : ends next after ≡ ends ended (byte ∷ after) =
    elim c.if-byte-eq0.branch [
      | then-byte-eq0 w ↦ ends-zero ended next byte after w.if-byte-eq0.true w.ended-is
      | else-byte-eq0+else-ended+else-not-is_letter-2 w ↦ ends-letter ended next byte after w.if-byte-eq0.false w.if-ended.false (sym w.if-not-is_letter-2.ensures) w.ended-is
    ] in
    step ∙ sym here ∙ c.loop-byte.invariant

pub returns : goal.returns
returns c =
    let name = c.args.name.now in
    let rest = take 7 (drop 1 name) in
    let end = at_drop_all (ends c.loop-byte.ended) rest c.loop-byte.byte-index (omega arith) in
    let all : rest ≡ drop 1 name = take_all 7 (drop 1 name) (omega (arith, length-drop 1 name)) in
    sym (formed name c.if-name-ne8.false (sym c.if-not-is_letter.ensures) ∙ ap letters_then_zeros (sym all) ∙ sym c.loop-byte.invariant ∙ end ∙ ends-none c.loop-byte.ended)
