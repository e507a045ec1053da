use Rattle.std.proofs.Common.{◌≡◌, ℕ, List, [], ◌++◌, Some, None, Option, take, subst}
use Rattle.std.specs.Prelude.{IfSome}
use Rattle.std.specs.Option.{option_map}
use Rattle.terminal.specs.Serving.{ReadFrom}
use Rattle.terminal.proofs.read.Goals as goal

-- the known bytes up to a limit, after none
first-bytes : (known : Option (List ℕ)) (limit : ℕ) (old input : List ℕ) → limit ≡ 65536 → old ≡ [] → IfSome (option_map (take limit) known) (λ bytes. input ≡ old ++ bytes) → ReadFrom known input
first-bytes None limit old input e none given = tt
first-bytes (Some bytes) limit old input e none given = cc

pub returns : goal.returns
returns g c =
    let remaining = g.R.Read.remaining in
    subst (λ r. ReadFrom (remaining r) c.read_to_end.new.buf.items) c.take.ensures.inner
    (first-bytes (remaining c.take.result.inner) c.take.result.limit c.new-input.result.items c.read_to_end.new.buf.items c.take.ensures.limit c.new-input.ensures.items c.in_ok-read_to_end.ensures.bytes)
