use Rattle.std.proofs.Common.{◌≡◌, ◌<◌, length, ◌∙◌, arith, rules}
use Rattle.std.proofs.lemmas.Bool.Decides.{nat_tests}
use Rattle.hex.specs.Hex.{encode_lower}
use Rattle.console.proofs.Lengths.{hex-encoded, length-shown}
use Rattle.console.proofs.Writing.{shown-written}
use Rattle.console.proofs.line.put_shown.Goals as goal

pub overflow_add-end : goal.overflow_add-end
overflow_add-end c =
    let some : 0 < length c.args.shown.now = grind (arith, nat_tests, c.if-is_empty.ensures) in
    omega (arith, length-shown c.args.shown.now some, c.requires)

pub slice_bounds-encode_to_slice-end : goal.slice_bounds-encode_to_slice-end
slice_bounds-encode_to_slice-end c =
    let some : 0 < length c.args.shown.now = grind (arith, nat_tests, c.if-is_empty.ensures) in
    let long = length-shown c.args.shown.now some in
    search rules

pub returns-clause-value : goal.returns-clause-value
returns-clause-value c =
    let some : 0 < length c.args.shown.now = grind (arith, nat_tests, c.if-is_empty.ensures) in
    omega (arith, length-shown c.args.shown.now some)

pub returns-clause-after : goal.returns-clause-after
returns-clause-after c =
    let some : 0 < length c.args.shown.now = grind (arith, nat_tests, c.if-is_empty.ensures) in
    let long = length-shown c.args.shown.now some in
    let text : c.encode_to_slice.new.output ≡ encode_lower c.args.shown.now = search rules in
    shown-written c.args.out.now c.put-next.new.out c.encode_to_slice.new.output c.args.shown.now c.args.at c.put-next.result _ some c.requires
    c.put-next.ensures.value c.put-next.ensures.after (omega arith) (text ∙ hex-encoded c.args.shown.now (λ k. let fits = c.type_inv.shown k in omega (arith, fits)))
