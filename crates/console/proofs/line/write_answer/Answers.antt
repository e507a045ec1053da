use Rattle.std.proofs.Common.{length, Some, refl, ap, ◌∙◌, arith}
use Rattle.std.proofs.lemmas.Bool.Decides.{nat_tests}
use Rattle.console.specs.Lines.{answer_line}
use Rattle.console.proofs.Lengths.{length-line}
use Rattle.console.proofs.Writing.{length-written, line-written}
use Rattle.console.proofs.line.write_answer.Goals as goal

pub returns-then-not-fits-clause-writes : goal.returns-then-not-fits-clause-writes
returns-then-not-fits-clause-writes c =
    let over = c.if-not-fits.ensures.value c.args.letter in
    record { whole = λ le. absurd (grind (arith, nat_tests)); short = λ _. (refl, refl) }

pub returns-then-not-fits-clause-few : goal.returns-then-not-fits-clause-few
returns-then-not-fits-clause-few c = c.fits.ensures.few c.args.letter

pub returns : goal.returns
returns c =
    let text = c.as_bytes.ensures.value ∙ c.format.ensures.text in
    let whole = length-line c.args.letter c.args.number c.args.carried c.args.shown.now in
    let room = c.if-not-fits.ensures.room refl in
    let w = line-written c.args.out.now c.put-at.new.out c.put-at-2.new.out c.put_carried-at.new.out c.put_shown-at.new.out c.put.new.out c.as_bytes.result.now
    c.args.letter c.put-at.result c.put-at-2.result c.put_carried-at.result c.put_shown-at.result c.put.result
    c.args.number c.args.carried c.args.shown.now text (omega arith)
    c.put-at.ensures.value c.put-at.ensures.after c.put-at-2.ensures.value c.put-at-2.ensures.after c.put_carried-at.ensures.value c.put_carried-at.ensures.after
    c.put_shown-at.ensures.value c.put_shown-at.ensures.after c.put.ensures.value c.put.ensures.after in
    record {
      writes = record { whole = λ _. (ap Some w.0, w.1); short = λ lt. absurd (omega arith) };
      bound = omega (arith, w.0, ap length w.1, length-written c.args.out.now 0 (answer_line c.args.letter c.args.number c.args.carried c.args.shown.now) (omega arith));
      few = c.fits.ensures.few c.args.letter;
    }
