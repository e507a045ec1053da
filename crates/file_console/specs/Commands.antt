-- A command is one byte, then its operands; numbers are lowest byte first.
use Rattle.std.specs.Prelude.{ℕ, Bool, false, cond, List, [], ◌∷◌, length, take, drop, Some, None, Option, ◌==◌, nat_le, nat_lt}
use Rattle.memory.specs.Bytes.{little_endian}
use Rattle.store.specs.declared.change.Change.TheVariants.{Create, Remove, Shorten, Rename}
use Rattle.file_console.specs.declared.command.Command.{Command}
use Rattle.file_console.specs.declared.command.Command.TheVariants.{Restart, Format, Recover, CutPoint, Change, Read}

-- P, F, R, K, C, D, S, N and G
abbrev pub letter : Command → ℕ
letter Restart = 80
letter Format = 70
letter Recover = 82
letter (CutPoint n) = 75
letter (Change (Create name)) = 67
letter (Change (Remove name)) = 68
letter (Change (Shorten name len)) = 83
letter (Change (Rename name new)) = 78
letter (Read name offset count) = 71

-- a read of more than 32 bytes
abbrev pub asks_too_much : Command → Bool
asks_too_much Restart = false
asks_too_much Format = false
asks_too_much Recover = false
asks_too_much (CutPoint n) = false
asks_too_much (Change change) = false
asks_too_much (Read name offset count) = nat_lt 32 count

-- the first n bytes and what follows them; none if there are fewer
abbrev pub first_bytes : ℕ → List ℕ → Option (List ℕ × List ℕ)
first_bytes n bs = cond (nat_le n (length bs)) (Some (take n bs, drop n bs)) None

-- one operand, and then what is made of it and of the bytes that follow
abbrev pub and_then : {X Y : Type 0} → Option (X × List ℕ) → (X → List ℕ → Option Y) → Option Y
and_then None go = None
and_then (Some (x, rest)) go = go x rest

-- a number of n bytes
abbrev pub number : ℕ → List ℕ → Option (ℕ × List ℕ)
number n bs = and_then (first_bytes n bs) λ first rest. Some (little_endian first, rest)

-- the operand of a cut point, two bytes
abbrev pub cut_points : List ℕ → Option (Command × List ℕ)
cut_points bs = and_then (number 2 bs) λ operations rest. Some (CutPoint operations, rest)

-- the operands of the file commands: names of eight bytes, lengths and offsets of four, a count of one
abbrev pub creates : List ℕ → Option (Command × List ℕ)
creates bs = and_then (first_bytes 8 bs) λ name rest. Some (Change (Create name), rest)

abbrev pub removes : List ℕ → Option (Command × List ℕ)
removes bs = and_then (first_bytes 8 bs) λ name rest. Some (Change (Remove name), rest)

abbrev pub shortens : List ℕ → Option (Command × List ℕ)
shortens bs = and_then (first_bytes 8 bs) λ name bs'. and_then (number 4 bs') λ len rest. Some (Change (Shorten name len), rest)

abbrev pub renames : List ℕ → Option (Command × List ℕ)
renames bs = and_then (first_bytes 8 bs) λ name bs'. and_then (first_bytes 8 bs') λ new rest. Some (Change (Rename name new), rest)

abbrev pub reads : List ℕ → Option (Command × List ℕ)
reads bs =
    and_then (first_bytes 8 bs) λ name bs'.
    and_then (number 4 bs') λ offset bs''.
    and_then (number 1 bs'') λ count rest. Some (Read name offset count, rest)

-- the first command and what follows it; none if it is unknown or short
abbrev pub parsed : List ℕ → Option (Command × List ℕ)
parsed [] = None
parsed (b ∷ bs) =
    cond (b == 80) (Some (Restart, bs)) (
    cond (b == 70) (Some (Format, bs)) (
    cond (b == 82) (Some (Recover, bs)) (
    cond (b == 75) (cut_points bs) (
    cond (b == 67) (creates bs) (
    cond (b == 68) (removes bs) (
    cond (b == 83) (shortens bs) (
    cond (b == 78) (renames bs) (
    cond (b == 71) (reads bs)
    None))))))))
