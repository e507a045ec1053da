use Rattle.std.proofs.Common.{◌≡◌, ◌≤◌, Bool, None, Some, false, cond, ltb, length, refl, sym, ap, ◌∙◌, inl, arith}
use Rattle.std.proofs.lemmas.Bool.Decides.{nat_tests}
use Rattle.console.specs.Lines.{line, written}
use Rattle.console.proofs.line.write_line.Goals as goal

pub returns : goal.returns
returns c =
    let text = line c.args.letter c.args.number in
    let long : ltb (length c.args.out.now) 72 ≡ false = grind (arith, nat_tests, c.if-out-lt-LINE.false) in
    let few : length text ≤ 72 = c.write_answer.ensures.few (inl refl) in
    let w = c.write_answer.ensures.writes.whole (omega (arith, few, c.if-out-lt-LINE.false)) in
    record {
      value = w.0 ∙ ap (λ (b : Bool). cond b None (Some (length text))) (sym long);
      bound = c.write_answer.ensures.bound;
      after = w.1 ∙ ap (λ (b : Bool). cond b c.args.out.now (written c.args.out.now 0 text)) (sym long);
    }
