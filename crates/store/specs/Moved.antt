-- What a store that is moved through a call answers, and the memory that it holds then.
use Rattle.std.specs.Prelude.{Bool, Ok, Err, Result}
use Rattle.image_check.specs.declared.refusal.Refusal.{Refusal}
use Rattle.store.specs.declared.stores.Unread.{Unread}
use Rattle.store.specs.declared.stores.Ready.{Ready}

-- recovery gives a ready store, or the unread one back
abbrev pub answered : {M : Type 0} → Result (Ready M × Bool) (Unread M × Refusal) → Result Bool Refusal
answered (Ok x) = Ok x.1
answered (Err x) = Err x.1

abbrev pub left : {M : Type 0} → Result (Ready M × Bool) (Unread M × Refusal) → M
left (Ok x) = x.0.memory
left (Err x) = x.0.memory
