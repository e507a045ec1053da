use Rattle.std.proofs.Common.{[], ◌∷◌, length, sym, ap, ◌∙◌, arith}
use Rattle.console.specs.Lines.{carried_part, written}
use Rattle.console.proofs.Writing.{then-written}
use Rattle.console.proofs.line.put_carried.Goals as goal

pub returns-clause-after : goal.returns-clause-after
returns-clause-after c =
    let some = ap carried_part c.in-Some.is in
    let text = c.as_bytes.ensures.value ∙ c.format.ensures.text in
    let w = then-written c.args.out.now c.put-next.new.out c.put.new.out c.args.at c.put-next.result c.put.result (32 ∷ []) c.as_bytes.result.now
    c.put-next.ensures.value c.put-next.ensures.after c.put.ensures.value c.put.ensures.after (omega (arith, ap length some, ap length text, c.requires)) in
    w.1 ∙ ap (λ t. written c.args.out.now c.args.at (32 ∷ t)) text ∙ ap (written c.args.out.now c.args.at) (sym some)
