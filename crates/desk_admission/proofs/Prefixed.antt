-- Prefixes of what an end of a handshake sends, and of what comes to it.
use Rattle.std.proofs.Common.{◌≡◌, ℕ, List, ◌++◌, Option, None, Some, ap, sym, ◌∙◌, append_assoc}
use Rattle.std.specs.Io.KnownBytes.{Appends, Consumes, prepend_known}
use Rattle.std.proofs.KnownBytes.{Appends-trans}
use Rattle.desk_output.specs.Prefixes.{AppendsPrefix}

-- a text, and then a prefix of another
pub prefix_after : (a b c : Option (List ℕ)) (first second : List ℕ) → Appends a b first → AppendsPrefix b c second →
    AppendsPrefix a c (first ++ second)
prefix_after a b c first second p q = (
  first ++ q.0,
  q.1,
  ap (λ l. first ++ l) q.2 ∙ sym (append_assoc first q.0 q.1),
  Appends-trans a b c first q.0 p q.3,
)

-- the first of two texts came, and the second stood after it
pub front_came : (a b : Option (List ℕ)) (first second : List ℕ) → Consumes a b (first ++ second) →
    Consumes a (prepend_known second b) first
front_came None b first second h = tt
front_came (Some x) None first second h = absurd h
front_came (Some x) (Some y) first second h = h ∙ append_assoc first second y
