use Rattle.std.proofs.Common.{sym, refl, ◌∙◌, arith, rules}
use Rattle.std.proofs.lemmas.Bool.Decides.{not_from_Decides}
use Rattle.layout.specs.Image.{Rule1}
use Rattle.image_check.proofs.Checking.{two_from, three-from, formed-from, differ-from, rooted-from, below-one, below-next, broken}
use Rattle.image_check.proofs.image.check_directory.Goals as goal

pub returns-then-not-names_good-clause-listed : goal.returns-then-not-names_good-clause-listed
returns-then-not-names_good-clause-listed g c =
    let w = g.first.seen in
    let n = c.args.blocks in
    let h = c.in_ok-directory.ensures.reads in
    let one : Rule1 n w = sym c.in_ok-load_word.ensures.reads.1 ∙ search rules in (
      h.0,
      broken 2 n w (omega arith) (omega arith) (below-next 1 n w (below-one n w) one)
          (λ two. not_from_Decides c.names_good.result c.names_good.ensures c.if-not-names_good.true (formed-from h.1 two, differ-from h.1 two)),
    )

pub returns-then-not-roots_good-clause-listed : goal.returns-then-not-roots_good-clause-listed
returns-then-not-roots_good-clause-listed g c =
    let w = g.first.seen in
    let n = c.args.blocks in
    let h = c.in_ok-directory.ensures.reads in
    let one : Rule1 n w = sym c.in_ok-load_word.ensures.reads.1 ∙ search rules in
    let names = c.names_good.ensures.0 c.if-not-names_good.false in (
      h.0,
      broken 3 n w (omega arith) (omega arith) (below-next 2 n w (below-next 1 n w (below-one n w) one) (two_from h.1 names.0 names.1))
          (λ three. not_from_Decides c.roots_good.result c.roots_good.ensures c.if-not-roots_good.true (rooted-from h.1 n three)),
    )

pub returns-clause-listed : goal.returns-clause-listed
returns-clause-listed g c =
    let n = c.args.blocks in
    let h = c.in_ok-directory.ensures.reads in
    let one : Rule1 n g.first.seen = sym c.in_ok-load_word.ensures.reads.1 ∙ search rules in
    let names = c.names_good.ensures.0 c.if-not-names_good.false in
    (h.0, record { size = c.requires.1.1.1.1; lists = h.1 }, refl, one, two_from h.1 names.0 names.1, three-from h.1 n (c.roots_good.ensures.0 c.if-not-roots_good.false))
