-- Several statements in a row.
use Rattle.std.proofs.Common.{◌≡◌, ℕ, zero, suc, ◌+◌, ◌<◌, List, [], ◌∷◌, ◌++◌, take, length, get_or, true, IsTrue}
use Rattle.std.proofs.Common.{IsPermutation, refl, sym, ap, subst, ◌∙◌, arith, append-nil, append_assoc}
use Rattle.std.proofs.lemmas.List.Sorted.{IsPermutation-trans, IsPermutation-to_front}
use Rattle.sqlite_value.specs.Order.{Row}
use Rattle.sqlite.specs.State.{State, Survives}
use Rattle.sqlite.proofs.StateLemmas.{survives_then}
use Rattle.desk_types.specs.declared.command.Entry.{Entry}
use Rattle.desk_saved.specs.DeskTables.{Layout, StateRows, Keeps, Leaves, IsInside}
use Rattle.desk_saved.specs.File.{entry_row_at, rows_from}
pub use Rattle.desk_saved.specs.SameFile.{others_same, others_then}

pub leaves_then : (d : Layout) (a b c : State) (mid last : StateRows) → Leaves d a b mid → Leaves d b c last
    → Leaves d a c last
leaves_then d a b c mid last p q = record {
  keeps = q.keeps;
  others = others_then d a b c p.others q.others;
  sound = q.sound;
  shows = record {
    was_open = p.shows.was_open;
    is_open = q.shows.is_open;
    now_is = refl;
    committed_is =
        q.shows.committed_is ∙ p.shows.committed_is;
    mode = q.shows.mode;
  };
}

pub leaves_as : (d : Layout) (a b : State) (rows : StateRows) (entries : List Row) → IsPermutation entries rows.entries
    → Leaves d a b rows → Leaves d a b (record rows { entries = entries })
leaves_as d a b rows entries same p = record {
  keeps = record {
    schema = p.keeps.schema;
    rows = (p.keeps.rows.0, IsPermutation-trans _ _ _ same p.keeps.rows.1, p.keeps.rows.2);
  };
  others = p.others;
  sound = p.sound;
  shows = p.shows;
}

pub still_inside : (d : Layout) (a b : State) (rows : StateRows) → Leaves d a b rows → IsInside b
still_inside d a b rows p =
    record { is_open = p.shows.is_open; in_transaction = subst IsTrue (sym p.shows.mode) refl; sound = p.sound }

truth : (b : Rattle.std.proofs.Common.Bool) → IsTrue b → b ≡ true
truth b h = h

-- no statement at all
pub unmoved : (d : Layout) (s : State) (rows : StateRows) → IsInside s → Keeps d s.now rows → Leaves d s s rows
unmoved d s rows inside keeps = record {
  keeps = keeps;
  others = others_same d s.now.trees;
  sound = inside.sound;
  shows = record {
    was_open = inside.is_open;
    is_open = inside.is_open;
    now_is = refl;
    committed_is = refl;
    mode =
        truth _ inside.in_transaction;
  };
}

pub stays : (d : Layout) (s : State) (rows : StateRows) → IsInside s → Keeps d s.now rows
    → Leaves d s s (record rows { entries = rows.entries ++ [] })
stays d s rows inside keeps = rw append-nil (unmoved d s rows inside keeps)

pub rows_more : (front k : ℕ) (more : List Entry) (e : Entry) → k < length more → e ≡ get_or more k e
    → rows_from front (take (k + 1) more) ≡ rows_from front (take k more) ++ entry_row_at (front + k + 1) e ∷ []
rows_more front k [] e low is = absurd (omega arith)
rows_more front zero (x ∷ more) e low is = let place : front + 0 + 1 ≡ front + 1 = omega arith in rw (place, is) refl
rows_more front (suc k) (x ∷ more) e low is =
    let place : front + suc k + 1 ≡ front + 1 + k + 1 = omega arith in
    let next : suc k + 1 ≡ suc (k + 1) = omega arith in
    rw (place, next) (ap (λ l. entry_row_at (front + 1) x ∷ l) (rows_more (front + 1) k more e (omega arith) is))

pub one_more : (front k : ℕ) (more : List Entry) (e : Entry) (entries : List Row) → k < length more
    → e ≡ get_or more k e
    → IsPermutation (entries ++ rows_from front (take (k + 1) more))
    (entry_row_at (front + k + 1) e ∷ (entries ++ rows_from front (take k more)))
one_more front k more e entries low is =
    rw (rows_more front k more e low is, ← append_assoc entries) (IsPermutation-to_front _ _)

pub commits_nothing : (a b c : State) → Survives a b (λ _. ⊥) → Survives b c (λ _. ⊥) → Survives a c (λ _. ⊥)
commits_nothing a b c = survives_then a b c _ _ _ (λ _ db none. none) (λ _ db none. none)

pub commits_no : (a : State) → Survives a a (λ _. ⊥)
commits_no a = record {
  clean = omega arith;
  shield = λ h. h;
  counts = omega arith;
  limit = refl;
  closes =
      λ _ h. Rattle.std.proofs.Common.inl h;
  crash = λ _ db h. Rattle.std.proofs.Common.inl h;
}
