-- Document lines that are written one after the other.
use Rattle.std.proofs.Common.{◌≡◌, ◌≤◌, ◌<◌, ◌+◌, ◌-◌, min, leb, ℕ, List, [], ◌∷◌, ◌++◌, length, take, drop, get_or}
use Rattle.std.proofs.Common.{Option, None, Some, inl, inr}
use Rattle.std.proofs.Common.{refl, sym, subst, ap, ◌∙◌, append_assoc, append-nil, arith}
use Rattle.std.proofs.lemmas.Bool.{cases_Bool, leb-true, leb-false}
use Rattle.std.proofs.KnownBytes.{Appends-trans}
use Rattle.std.proofs.lemmas.List.{take_all, take_more, drop_all, length-drop, length-take-le}
use Rattle.std.specs.Io.KnownBytes.{Appends}
use Rattle.desk_types.specs.declared.command.Entry.{Entry}
use Rattle.desk_output.specs.Prefixes.{AppendsPrefix}
use Rattle.desk_archive.specs.Document.{IsLineOf}
use Rattle.desk_archive.specs.Lines.{AreLinesOf, AppendsLines, AppendsFirstLines, entries_from}

-- the line of one more entry after those before it
one_more : (entries : List Entry) (e : Entry) (lines line : List ℕ) → AreLinesOf entries lines → IsLineOf e line
    → AreLinesOf (entries ++ e ∷ []) (lines ++ line)
one_more [] e lines line none is = (line, [], is, refl, ap (λ t. t ++ line) none ∙ sym (append-nil line))
one_more (first ∷ more) e lines line (head, rest, head_is, rest_are, lines_are) is = (
  head,
  rest ++ line,
  head_is,
  one_more more e rest line rest_are is,
  ap (λ t. t ++ line) lines_are ∙ append_assoc head rest line,
)

module _ (a b c : Option (List ℕ)) (entries : List Entry) (i : ℕ) (e : Entry) (line : List ℕ)
    (within : i < length entries) (e_is : e ≡ get_or entries i e) (is : IsLineOf e line) where
  taken : take (i + 1) entries ≡ take i entries ++ e ∷ []
  taken = take_more entries i e within ∙ ap (λ x. take i entries ++ x ∷ []) (sym e_is)

  -- one more line is written
  pub line_more : AppendsLines (take i entries) a b → Appends b c line → AppendsLines (take (i + 1) entries) a c
  line_more (lines, are, appended) wrote = (
    lines ++ line,
    subst (λ es. AreLinesOf es (lines ++ line)) (sym taken) (one_more (take i entries) e lines line are is),
    Appends-trans a b c lines line appended wrote,
  )

  -- a prefix of one more line is written
  pub line_part : AppendsLines (take i entries) a b → AppendsPrefix b c line → AppendsFirstLines entries a c
  line_part (lines, are, appended) (prefix, rest, line_is, wrote) = (
    i + 1,
    lines ++ line,
    omega (arith, within),
    subst (λ es. AreLinesOf es (lines ++ line)) (sym taken) (one_more (take i entries) e lines line are is),
    (
      lines ++ prefix,
      rest,
      ap (λ t. lines ++ t) line_is ∙ sym (append_assoc lines prefix rest),
      Appends-trans a b c lines prefix appended wrote,
    ),
  )

-- the lines so far are written, and no more
pub lines_first : (a b : Option (List ℕ)) (entries : List Entry) (i : ℕ) → i ≤ length entries
    → AppendsLines (take i entries) a b → AppendsFirstLines entries a b
lines_first a b entries i within (lines, are, appended) =
    (i, lines, within, are, (lines, [], sym (append-nil lines), appended))

-- the lines of all entries are written
pub lines_all : (a b : Option (List ℕ)) (entries : List Entry) (i : ℕ) → length entries ≤ i
    → AppendsLines (take i entries) a b → AppendsLines entries a b
lines_all a b entries i end lines = subst (λ es. AppendsLines es a b) (take_all i entries end) lines

appends_none : (a : Option (List ℕ)) → Appends a a []
appends_none None = tt
appends_none (Some x) = sym (append-nil x)

-- none is written yet
pub lines_none : (a : Option (List ℕ)) (entries : List Entry) → AppendsLines (take 0 entries) a a
lines_none a entries = ([], refl, appends_none a)

-- nothing was written
pub nothing_first : (a : Option (List ℕ)) (entries : List Entry) → AppendsFirstLines entries a a
nothing_first a entries = (0, [], omega arith, refl, ([], [], refl, appends_none a))

-- what is behind the first k
pub rest_after_is : (k : ℕ) (entries : List Entry) → take (length entries - k) (drop k entries) ≡ drop k entries
rest_after_is k entries = take_all (length entries - k) (drop k entries) (omega (arith, length-drop k entries))

-- where no more entries are left out than there are, those from a place on are left
pub from_is : (past from committed : ℕ) (entries : List Entry) → committed ≤ length entries
    → drop (min ((from - past) - 1) committed) (take committed entries)
    ≡ entries_from past from (take committed entries)
from_is past from committed entries within =
    let count : length (take committed entries) ≡ committed = length-take-le committed entries within in
    elim (cases_Bool (leb ((from - past) - 1) committed)) [
      | inl few ↦
          let within = leb-true ((from - past) - 1) committed few in
          let is : min ((from - past) - 1) committed ≡ from - (past + 1) = omega (arith, within) in
          ap (λ n. drop n (take committed entries)) is
      | inr all ↦
          let beyond : committed < (from - past) - 1 = omega (arith, leb-false ((from - past) - 1) committed all) in
          let one : length (take committed entries) ≤ min ((from - past) - 1) committed =
          omega (arith, count, beyond) in
          let other : length (take committed entries) ≤ from - (past + 1) = omega (arith, count, beyond) in
          drop_all _ (take committed entries) one ∙ sym (drop_all _ (take committed entries) other)
    ]
