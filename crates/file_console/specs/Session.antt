-- What a session does with a command in each of its states.
use Rattle.std.specs.Prelude.{◌≡◌, ℕ, Bool, true, false, cond, List, [], ◌∷◌, take, Some, None, Ok, Err, Option, Result, ◌==◌}
use Rattle.memory.specs.Model.{Model, Restarted}
use Rattle.layout.specs.Image.{table_of}
use Rattle.layout.specs.Table.{Table, Ask, read, buffer}
use Rattle.store.specs.Calls.{SlotCall, FileCall, reply}
use Rattle.store.specs.Change.{asks}
use Rattle.store.specs.Format.{Formats}
use Rattle.store.specs.Read.{Quiet}
use Rattle.store.specs.Recover.{Recovers}
use Rattle.image_check.specs.declared.refusal.Refusal.{Refusal}
use Rattle.console.specs.Denials.{number_of}
use Rattle.console.specs.Lines.{answer_line}
use Rattle.console.specs.declared.denial.Denial.TheVariants.{NotAllowed, BadCommand}
use Rattle.file_console.specs.Answers.{carried_of, Said, answered, restarted, nothing, put_back, gave}
use Rattle.file_console.specs.Commands.{letter, asks_too_much}
use Rattle.file_console.specs.declared.command.Command.{Command}
use Rattle.file_console.specs.declared.command.Command.TheVariants.{Restart, Format, Recover, CutPoint, Change, Read}
use Rattle.file_console.specs.declared.state.State.{State}
use Rattle.file_console.specs.declared.state.State.TheVariants.{Off, Unread, Ready}

abbrev has_power : State → Bool
has_power Off = false
has_power Unread = true
has_power Ready = true

abbrev is_unread : State → Bool
is_unread Off = false
is_unread Unread = true
is_unread Ready = false

abbrev is_ready : State → Bool
is_ready Off = false
is_ready Unread = false
is_ready Ready = true

-- the states in which a command is allowed: the file commands in state ready only
abbrev pub allows : State → Command → Bool
allows s Restart = true
allows s Format = is_unread s
allows s Recover = is_unread s
allows s (CutPoint k) = has_power s
allows s (Change change) = is_ready s
allows s (Read name offset count) = is_ready s

-- where a command leads that did not lose power
abbrev leads : State → Command → ℕ → State
leads s Restart n = Unread
leads s Format n = s
leads s Recover n = cond (n == 0) Ready s
leads s (CutPoint k) n = s
leads s (Change change) n = s
leads s (Read name offset count) n = s

-- the state after a command that was allowed: answer 1 turns a session off
abbrev pub next : State → Command → Said → State
next s c a = cond (number_of a == 1) Off (leads s c (number_of a))

-- A call that changes one slot of the directory, and its answer.
abbrev pub Calls : Model → Ask → Said → Model → Type 0
Calls m ask a n = (r : Result Unit Refusal) × SlotCall m ask (reply (λ _. []) r) n × (a ≡ answered nothing r)

-- what a read shows: of the buffer that it fills, the bytes that the file gave; refused, none
abbrev pub shown_by : Table → List ℕ → ℕ → ℕ → Result ℕ Refusal → List ℕ
shown_by t name offset count (Ok given) = take given (buffer t name offset count)
shown_by t name offset count (Err e) = []

-- A read of the files that a memory holds, its answer and what it shows.
abbrev pub Reads : Model → List ℕ → ℕ → ℕ → Said → List ℕ → Model → Type 0
Reads m name offset count a shown n =
    (r : Result ℕ Refusal) × FileCall m (read name offset count) (reply (λ given. given ∷ []) r) n × Quiet m n
    × (a ≡ answered gave r) × (shown ≡ shown_by (table_of m.seen) name offset count r)

-- One command, in a state, on a memory x that becomes y: a is answered, bytes are shown, and the state is then t.
module _ {M : Type 0} (model : M → Model) (cut : M → Option ℕ) where
  -- what a command does where it is allowed
  abbrev pub Does : Command → M → Said → List ℕ → M → Type 0
  Does Restart x a shown y = (up : Bool) × Restarted (model x) up (model y) × (a ≡ restarted up) × (shown ≡ [])
  Does Format x a shown y = (r : Result Unit Refusal) × Formats (model x) r (model y) × (a ≡ answered nothing r) × (shown ≡ [])
  Does Recover x a shown y = (r : Result Bool Refusal) × Recovers (model x) r (model y) × (a ≡ answered put_back r) × (shown ≡ [])
  Does (CutPoint k) x a shown y = (a ≡ Ok None) × (cut y ≡ Some k) × (model y ≡ model x) × (shown ≡ [])
  Does (Change change) x a shown y = Calls (model x) (asks change) a (model y) × (shown ≡ [])
  Does (Read name offset count) x a shown y = Reads (model x) name offset count a shown (model y)

  -- A command that asks for too much is answered by 11, and then one that is not allowed by 10; neither changes anything.
  pub record Steps (s : State) (c : Command) (x : M) (a : Said) (shown : List ℕ) (t : State) (y : M) : Type 0 where
    pub too_much : asks_too_much c ≡ true → (a ≡ Err BadCommand) × (shown ≡ []) × (t ≡ s) × (y ≡ x)
    pub not-allowed : asks_too_much c ≡ false → allows s c ≡ false → (a ≡ Err NotAllowed) × (shown ≡ []) × (t ≡ s) × (y ≡ x)
    pub allowed : asks_too_much c ≡ false → allows s c ≡ true → Does c x a shown y × (t ≡ next s c a)

-- A command and the line that answers it.
module _ {M : Type 0} (model : M → Model) (cut : M → Option ℕ) where
  abbrev pub Tells : State → Command → M → List ℕ → State → M → Type 0
  Tells s c x text t y = (a : Said) × (shown : List ℕ) × Steps model cut s c x a shown t y × (text ≡ answer_line (letter c) (number_of a) (carried_of a) shown)
