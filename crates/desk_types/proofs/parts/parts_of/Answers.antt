use Rattle.std.proofs.Common.{◌≡◌, ◌∙◌, ◌&&◌, Bool, true, false, List, ℕ, None, Some, refl, sym}
use Rattle.std.proofs.lemmas.Bool.{false≢true}
use Rattle.std.proofs.lemmas.Slice.Eq.{bytes_eq-Decides}
use Rattle.std.specs.Bool.{Decides}
use Rattle.std.specs.Str.{bytes_eq}
use Rattle.desk_types.specs.Identifier.{Parts}
use Rattle.desk_types.specs.Reading.{reading, parts_if}
use Rattle.desk_types.proofs.parts.parts_of.Goals as goal

-- two tests that decide the same fact
same_answer : (r s : Bool) (P : Type 0) → Decides r P → Decides s P → r ≡ s
same_answer true true P h k = refl
same_answer false false P h k = refl
same_answer true false P h k = absurd (false≢true (k.1 (h.0 refl)))
same_answer false true P h k = absurd (false≢true (h.1 (k.0 refl)))

-- a test that tells whether bytes are a word
tells_word : (r : Bool) (bytes word : List ℕ) → Decides r (bytes ≡ word) → bytes_eq bytes word ≡ r
tells_word r bytes word h = same_answer _ _ (bytes ≡ word) (bytes_eq-Decides bytes word) h

-- the parts, where four tests are passed
all_passed : (a b c d : Bool) (p : Parts) → a ≡ true → b ≡ true → c ≡ true → d ≡ true →
    Some p ≡ parts_if (((a && b) && c) && d) p
all_passed a b c d p e f g h = rw (e, f, g, h) refl

-- no parts, where a test is failed
failed : (test : Bool) (p : Parts) → test ≡ false → None ≡ parts_if test p
failed test p h = rw h refl

-- a test that fails by its first part
first_fails : (a b : Bool) → a ≡ false → a && b ≡ false
first_fails a b h = rw h refl

-- a test that fails by its last part
last_fails : (a b : Bool) → b ≡ false → a && b ≡ false
last_fails true b h = h
last_fails false b h = refl

pub returns-then-is_domain_part : goal.returns-then-is_domain_part
unfolding reading
returns-then-is_domain_part c =
    rw (
      ← c.in_ok-scheme.ensures,
      ← c.in_ok-namespace.ensures,
      ← c.in_ok-uid.ensures,
      ← c.in_ok-kind.ensures,
      ← c.in_ok-unique.ensures,
      ← c.in_ok-namespace-2.ensures,
      ← c.in_ok-kind-2.ensures,
    ) (
    all_passed _ _ _ _ _ (tells_word _ _ _ c.eq_ignore_ascii_case.ensures.test ∙ c.if-eq_ignore_ascii_case.true)
    (sym c.eq.ensures ∙ c.if-eq.true) (sym c.is_unique_part.ensures ∙ c.if-is_unique_part.true)
    (sym c.is_domain_part.ensures ∙ c.if-is_domain_part.true)
    )

pub returns-else-eq_ignore_ascii_case : goal.returns-else-eq_ignore_ascii_case
unfolding reading
returns-else-eq_ignore_ascii_case c =
    rw (
      ← c.in_ok-scheme.ensures,
      ← c.in_ok-namespace.ensures,
      ← c.in_ok-uid.ensures,
      ← c.in_ok-kind.ensures,
      ← c.in_ok-unique.ensures,
      ← c.in_ok-namespace-2.ensures,
      ← c.in_ok-kind-2.ensures,
    )
    (failed _ _ (elim c.else-eq_ignore_ascii_case.branch [
      | goal.else-eq_ignore_ascii_case-via-then-eq_ignore_ascii_case+then-eq+then-is_unique_part+else-is_domain_part w ↦
          last_fails _ _ (sym w.is_domain_part.ensures ∙ w.if-is_domain_part.false)
      | goal.else-eq_ignore_ascii_case-via-then-eq_ignore_ascii_case+then-eq+else-is_unique_part w ↦
          first_fails _ _ (last_fails _ _ (sym w.is_unique_part.ensures ∙ w.if-is_unique_part.false))
      | goal.else-eq_ignore_ascii_case-via-then-eq_ignore_ascii_case+else-eq w ↦
          first_fails _ _ (first_fails _ _ (last_fails _ _ (sym w.eq.ensures ∙ w.if-eq.false)))
      | goal.else-eq_ignore_ascii_case-via-else-eq_ignore_ascii_case w ↦
          first_fails _ _ (first_fails _ _ (first_fails _ _
          (tells_word _ _ _ c.eq_ignore_ascii_case.ensures.test ∙ w.if-eq_ignore_ascii_case.false)))
    ]))
