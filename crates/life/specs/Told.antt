-- What a witness is told of a call, and what a whole life leaves.
use Rattle.std.specs.Prelude.{◌≡◌, ℕ, List, ◌++◌, length, Ok, Err, Option, Result}
use Rattle.std.specs.Option.{option_to_list}
use Rattle.memory.specs.Model.{Model}
use Rattle.layout.specs.Table.{Reply, done, refuse}
use Rattle.image_check.specs.declared.refusal.Refusal.{Refusal}
use Rattle.store.specs.Calls.{refused_reply}
use Rattle.store.specs.Format.{Formats}
use Rattle.life.specs.Asked.{Asked, asked}
use Rattle.life.specs.Life.{Event, latest, Lived}
use Rattle.life.specs.declared.answer.Denial.{Denial}
use Rattle.life.specs.declared.answer.Denial.TheVariants.{Refused, NotAllowed}
use Rattle.life.specs.declared.call.Call.{Call}

-- the reply of an answer
abbrev pub reply_of : Result (Option ℕ) Denial → Reply
reply_of (Ok x) = done (option_to_list x)
reply_of (Err (Refused e)) = refused_reply e
reply_of (Err NotAllowed) = refuse 10

-- what is told of a call: what was asked, the answer, the read buffer, and the memory
abbrev pub event : Call → Result (Option ℕ) Denial → List ℕ → Model → Event
event call answer bytes m = record { asked = asked (length bytes) call; reply = reply_of answer; buffer = bytes; memory = m }

-- A life on memory m: format is done, and the calls are lived; or format is refused, and there is none. What a witness was
-- told is given by the lists of events that it may have been told, before and after: those of the life are added, or none.
abbrev pub Lives : Model → List Asked → Result Unit Refusal → (List Event → Type 0) → (List Event → Type 0) → Model → Type 0
Lives m calls (Ok x) before now n =
    (f : Model) × Formats m (Ok x) f × ((es : List Event) × Lived f calls es × (n ≡ latest f es) × ((old : List Event) → before old → now (es ++ old)))
Lives m calls (Err e) before now n = Formats m (Err e) n × ((old : List Event) → before old → now old)
