-- What a session does with a command in each of its states.
use Rattle.std.specs.Prelude.{◌≡◌, ℕ, Bool, cond, List, Some, Ok, Err, Option, Result, ◌==◌}
use Rattle.memory.specs.Model.{Model, Restarted}
use Rattle.store.specs.Format.{Formats}
use Rattle.image_check.specs.declared.refusal.Refusal.{Refusal}
use Rattle.image_check.specs.declared.refusal.Refusal.TheVariants.{PowerLost}
use Rattle.console.specs.Commands.{letter}
use Rattle.console.specs.Denials.{number_of}
use Rattle.console.specs.Lines.{line}
use Rattle.console.specs.declared.command.Command.{Command}
use Rattle.console.specs.declared.command.Command.TheVariants.{Restart, Format, CutPoint}
use Rattle.console.specs.declared.denial.Denial.{Denial}
use Rattle.console.specs.declared.denial.Denial.TheVariants.{Refused, NotAllowed}
use Rattle.console.specs.declared.state.State.{State}
use Rattle.console.specs.declared.state.State.TheVariants.{Off, Unread}

-- the answer of a call
abbrev pub answered : Result Unit Refusal → Result Unit Denial
answered (Ok x) = Ok x
answered (Err e) = Err (Refused e)

-- the answer of a restart that found power, or did not
abbrev pub restarted : Bool → Result Unit Denial
restarted up = cond up (Ok tt) (Err (Refused PowerLost))

-- answer 1 turns a session off
abbrev pub next : State → Result Unit Denial → State
next s a = cond (number_of a == 1) Off s

-- One command, in a state, on a memory x that becomes y: a is answered, and the state is then t.
module _ {M : Type 0} (model : M → Model) (cut : M → Option ℕ) where
  -- power is turned off and on again
  abbrev pub Restarts : M → Result Unit Denial → State → M → Type 0
  Restarts x a t y = (up : Bool) × Restarted (model x) up (model y) × (a ≡ restarted up) × (t ≡ next Unread a)

  -- not allowed in this state: nothing changes
  abbrev pub Denies : State → M → Result Unit Denial → State → M → Type 0
  Denies s x a t y = (a ≡ Err NotAllowed) × (t ≡ s) × (y ≡ x)

  abbrev pub Steps : State → Command → M → Result Unit Denial → State → M → Type 0
  Steps Off Restart x a t y = Restarts x a t y
  Steps Unread Restart x a t y = Restarts x a t y
  Steps Unread Format x a t y = (r : Result Unit Refusal) × Formats (model x) r (model y) × (a ≡ answered r) × (t ≡ next Unread a)
  Steps Unread (CutPoint k) x a t y = (a ≡ Ok tt) × (t ≡ Unread) × (cut y ≡ Some k) × (model y ≡ model x)
  Steps Off Format x a t y = Denies Off x a t y
  Steps Off (CutPoint k) x a t y = Denies Off x a t y

-- A command and the line that answers it.
module _ {M : Type 0} (model : M → Model) (cut : M → Option ℕ) where
  abbrev pub Tells : State → Command → M → List ℕ → State → M → Type 0
  Tells s c x text t y = (a : Result Unit Denial) × Steps model cut s c x a t y × (text ≡ line (letter c) (number_of a))
