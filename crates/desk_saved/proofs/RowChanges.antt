-- What each change makes of the rows, and what changes make of them in a row.
use Rattle.std.proofs.Common.{◌≡◌, ◌&&◌, ℕ, zero, suc, ◌+◌, ◌<◌, pos, ℤ, List, [], ◌∷◌, map, not, Bool, true, false}
use Rattle.std.proofs.Common.{codes, Some, Ok, Err, Result, take, length, get_or, is_gt, is_eq, IsPermutation, refl}
use Rattle.std.proofs.Common.{sym, ap, subst, ◌∙◌, arith}
use Rattle.std.specs.List.{AllByRecursion}
use Rattle.std.proofs.lemmas.List.Sorted.{IsPermutation-cons, IsPermutation-trans, IsPermutation-map}
use Rattle.sqlite_value.specs.declared.value.Value.{Value}
use Rattle.sqlite_value.specs.declared.value.Value.TheVariants.{Int, Text as Words}
use Rattle.sqlite_value.specs.declared.keys.Collation.TheVariants.{Binary}
use Rattle.sqlite_value.specs.Order.{Row, value_cmp}
use Rattle.sqlite_value.proofs.OrderLemmas.{value_cmp_total}
use Rattle.sqlite_sql.specs.declared.ops.BinaryOp.TheVariants.{Compare}
use Rattle.sqlite_sql.specs.declared.ops.CompareOp.TheVariants.{Gt, Eq}
use Rattle.sqlite_sql.specs.Ops.{binary, is_true, from_truth}
use Rattle.sqlite_sql.specs.Term.{Term, eval_all, op2, col}
use Rattle.sqlite_schema.specs.declared.command.Command.TheVariants.{Update}
use Rattle.sqlite_trees.specs.Tree.{rowid}
use Rattle.sqlite_trees.specs.declared.store.Store.{Ghosts}
use Rattle.sqlite_schema.specs.declared.schema.Table.{Table}
use Rattle.sqlite_rules.specs.Edit.{id_in}
use Rattle.sqlite.specs.declared.error.Error.{Error}
use Rattle.sqlite.specs.Effect.{Database}
use Rattle.sqlite.specs.State.{State, HasCleanDisk, Executes, Shows}
use Rattle.sqlite.specs.Held.{Held, state}
use Rattle.sqlite.proofs.Callers.{one_permutation}
use Rattle.sqlite_keyed.proofs.ListLemmas.{all_weaker, filter-map, IsPermutation-filter}
use Rattle.desk_codec.specs.Spelling.{body_spelling}
use Rattle.desk_saved.specs.declared.changes.RowChange.{RowChange}
use Rattle.desk_saved.specs.declared.changes.RowChange.TheVariants as changes
use Rattle.desk_saved.specs.declared.steps.RowStep.{RowStep}
use Rattle.desk_saved.specs.Changes.{sql_of, values_of, change_effect, effects, step_effect, with_numbers, with_version}
use Rattle.desk_saved.specs.Changes.{IsOwnRow, IsApt, IsAptStep, AreApt, Spares}
use Rattle.desk_saved.specs.Transactions.{KeepsSpared, Quiet, Ran, MakesRows}
use Rattle.desk_naming.specs.Tables.{entry_table, client_table, node_table, slot_is_one}
use Rattle.desk_saved.specs.Tables.{node_row, stored, stored_client, cut_entries, add_entry, cut_client, add_client}
use Rattle.desk_saved.specs.Tables.{first_node, set_node, set_version}
use Rattle.desk_saved.specs.DeskTables.{Layout, StateRows, Keeps, Leaves, IsOther, IsKeyed, AreKeyed, KeepsEntryRows}
use Rattle.desk_saved.specs.DeskTables.{versioned_row, is_past, is_client, shown_entry, shown_client, own_row}
use Rattle.desk_naming.specs.Named.{shown_node}
use Rattle.desk_saved.specs.File.{entry_row_at}
use Rattle.desk_naming.proofs.Common.{all_permuted}
use Rattle.desk_saved.proofs.Common.{preserved_table, cast_int, cast_null}
use Rattle.desk_saved.proofs.OneTable.{WroteTable, Means, deletes, inserts, updates}
use Rattle.desk_saved.proofs.OwnRow.{only_row, picked, answers, edit_is, col_is, picks_numbers, picks_version}
use Rattle.desk_saved.proofs.StandingTables.{entry_free, client_free, node_free}
use Rattle.desk_saved.proofs.Texts.{cut_means, cut_client_means, add_means, add_client_means, first_means, set_means}
use Rattle.desk_saved.proofs.Texts.{version_means, updating, add_terms, client_terms, first_terms, set_terms}
use Rattle.desk_saved.proofs.Texts.{version_terms}
use Rattle.desk_saved.proofs.SeveralStatements.{leaves_as, leaves_then, still_inside, unmoved, commits_nothing}
use Rattle.desk_saved.proofs.SeveralStatements.{commits_no}
use Rattle.desk_saved.proofs.Refusing.{keeps_none, keeps_then}

-- ---- one table of the three

module _ (d : Layout) (old new : State) (rows : StateRows) (keeps : Keeps d old.now rows)
    (shows : Shows old new new.now old.committed true) (stored shown : List Row) where
  leaves_entries : WroteTable d.schema d.entry.tree old new stored → IsPermutation shown (map shown_entry stored)
      → Leaves d old new (record rows { entries = shown })
  leaves_entries w same = record {
    keeps = record {
      schema = w.schema_is;
      rows = (
        ap (map shown_node) (preserved_table d d.node d.entry.tree old.now.trees new.now.trees refl d.apart.0 w.others)
            ∙ keeps.rows.0,
        IsPermutation-trans _ _ _ same (IsPermutation-map shown_entry _ _ w.rows_are),
        subst (λ l. IsPermutation rows.clients (map shown_client l))
            (sym (preserved_table d d.client d.entry.tree old.now.trees new.now.trees refl
            (λ e. d.apart.2 (sym e)) w.others))
            keeps.rows.2,
      );
    };
    others = all_weaker _ (λ (t : Table). IsOther d t.tree → new.now.trees t.tree ≡ old.now.trees t.tree)
        (λ t h other. h other.1.0) d.schema.tables w.others;
    sound = w.sound;
    shows = shows;
  }

  leaves_clients : WroteTable d.schema d.client.tree old new stored → IsPermutation shown (map shown_client stored)
      → Leaves d old new (record rows { clients = shown }) × KeepsEntryRows d old new
  leaves_clients w same =
      let entries = preserved_table d d.entry d.client.tree old.now.trees new.now.trees refl d.apart.2 w.others in (
        record {
          keeps = record {
            schema = w.schema_is;
            rows = (
              ap (map shown_node)
                  (preserved_table d d.node d.client.tree old.now.trees new.now.trees refl d.apart.1 w.others)
                  ∙ keeps.rows.0,
              subst (λ l. IsPermutation rows.entries (map shown_entry l)) (sym entries) keeps.rows.1,
              IsPermutation-trans _ _ _ same (IsPermutation-map shown_client _ _ w.rows_are),
            );
          };
          others = all_weaker _ (λ (t : Table). IsOther d t.tree → new.now.trees t.tree ≡ old.now.trees t.tree)
              (λ t h other. h other.1.1.0) d.schema.tables w.others;
          sound = w.sound;
          shows = shows;
        },
        entries,
      )

  leaves_own : WroteTable d.schema d.node.tree old new stored → map shown_node (new.now.trees d.node.tree) ≡ shown
      → Leaves d old new (record rows { own = shown }) × KeepsEntryRows d old new
  leaves_own w same =
      let entries = preserved_table d d.entry d.node.tree old.now.trees new.now.trees refl
      (λ e. d.apart.0 (sym e)) w.others in (
        record {
          keeps = record {
            schema = w.schema_is;
            rows = (
              same,
              subst (λ l. IsPermutation rows.entries (map shown_entry l)) (sym entries) keeps.rows.1,
              subst (λ l. IsPermutation rows.clients (map shown_client l))
                  (sym (preserved_table d d.client d.node.tree old.now.trees new.now.trees refl (λ e. d.apart.1 (sym e))
                  w.others)) keeps.rows.2,
            );
          };
          others = all_weaker _ (λ (t : Table). IsOther d t.tree → new.now.trees t.tree ≡ old.now.trees t.tree)
              (λ t h other. h other.0) d.schema.tables w.others;
          sound = w.sound;
          shows = shows;
        },
        entries,
      )

no_rows : (rows : List Row) → map shown_node rows ≡ [] → rows ≡ []
no_rows [] h = refl
no_rows (r ∷ rows) h = absurd cc

-- ---- the tests of the DELETEs

truth_is : (b : Bool) → is_true (from_truth (Some b)) ≡ b
truth_is true = refl
truth_is false = refl

alone_is : (b : Bool) → (b && true) ≡ b
alone_is true = refl
alone_is false = refl

gt_at : (v : Value) (front n : ℤ) → v ≡ Int n
    → is_true (binary (Compare Gt Binary) v (Int front)) ≡ is_gt (value_cmp v (Int front))
unfolding binary
gt_at v front n e = rw e (truth_is (is_gt (value_cmp (Int n) (Int front))))

eq_at : (v : Value) (client n : ℤ) → v ≡ Int n
    → is_true (binary (Compare Eq Binary) v (Int client)) ≡ is_eq (value_cmp v (Int client))
unfolding binary
eq_at v client n e = rw e (truth_is (is_eq (value_cmp (Int n) (Int client))))

keyed_shown : (shown : Row → Row) → ((r : Row) → rowid (shown r) ≡ rowid r) → (rows : List Row)
    → AreKeyed (map shown rows) → AreKeyed rows
keyed_shown shown same [] h = tt
keyed_shown shown same (r ∷ rows) h = (subst (λ v. v ≡ Int (id_in v)) (same r) h.0, keyed_shown shown same rows h.1)

-- ---- each change

-- an UPDATE of the one row of `node`
leaves_update : (d : Layout) (old new : State) (rows : StateRows) (sql : List ℕ) (params : Row) (terms : List Term)
    (version : ℕ) (own : IsOwnRow version rows.own) (view normal commit count : ℕ) (shown : List Row)
    → Means d.schema sql (Update d.node.at (record { lets = []; body = updating terms d.node.tree })) → ((r : Row)
    → shown_node r ≡ versioned_row version own.id own.n own.domain own.view own.normal own.commit
    → eval_all terms (params ∷ r ∷ []) ≡ picked r own.id own.n own.domain view normal commit)
    → own_row own.id own.n own.domain view normal commit ∷ [] ≡ shown
    → Keeps d old.now rows → Executes sql params old new (Ok count)
    → Shows old new new.now old.committed true
    → Leaves d old new (record rows { own = shown }) × KeepsEntryRows d old new
leaves_update d old new rows sql params terms version own view normal commit count shown meant picks is keeps h shows =
    let tree = d.node.tree in
    let one = only_row (old.now.trees tree) _ (keeps.rows.0 ∙ own.is) in
    let r = one.0 in
    let made = node_row 2 own.id own.n own.domain view normal commit in
    let at_0 = col_is r version own.id own.n own.domain own.view own.normal own.commit one.2 0 in
    let w = updates d.schema (node_table tree) d.node.at d.node.stands (node_free d) sql params (updating terms tree)
    (picked r own.id own.n own.domain view normal commit ∷ []) (made ∷ []) meant old new count keeps.schema
    (λ shown a. answers r own.id own.n own.domain view normal commit params terms (picks r one.2) tree
    d.node.stands.own.small old.now.trees shown one.1 a)
    (edit_is r own.id own.n own.domain view normal commit at_0 tree old.now.trees one.1) h in
    leaves_own d old new rows keeps shows (made ∷ []) shown w
    (ap (map shown_node) (one_permutation made _ w.rows_are) ∙ is)

leaves_change : (d : Layout) (old new : State) (rows : StateRows) (c : RowChange) (count : ℕ) → Keeps d old.now rows
    → IsApt c rows → Executes (sql_of c) (values_of c) old new (Ok count)
    → Shows old new new.now old.committed true
    → Leaves d old new (change_effect c rows) × KeepsSpared (Spares c) d old new
leaves_change d old new rows (changes.CutEntries front) count keeps keyed h shows =
    let db = old.now.trees in (
      leaves_entries d old new rows keeps shows _ _
          (deletes (Int (pos front) ∷ []) (op2 (Compare Gt Binary) (col 1 0) (col 0 0)) (is_past front)
          (λ r at_. alone_is _ ∙ gt_at (rowid r) (pos front) _ at_)
          (λ x y tied. ap is_gt (value_cmp_total.congr (rowid x) (rowid y) (Int (pos front)) tied))
          d.schema (entry_table d.entry.tree) d.entry.at d.entry.stands (entry_free d)
          cut_entries (cut_means d.schema d.entry.tree d.entry.at d.entry.stands) old new count keeps.schema
          (keyed_shown shown_entry (λ r. refl) (db d.entry.tree) (all_permuted IsKeyed _ _ keeps.rows.1 keyed)) h)
          (subst (IsPermutation _) (filter-map (λ r. not (is_past front r)) shown_entry (db d.entry.tree))
          (IsPermutation-filter (λ r. not (is_past front r)) _ _ keeps.rows.1)),
      λ none. absurd none,
    )
leaves_change d old new rows (changes.CutClient client) count keeps keyed h shows =
    let db = old.now.trees in
    let it = leaves_clients d old new rows keeps shows _ _
    (deletes (Int (pos client) ∷ []) (op2 (Compare Eq Binary) (col 1 0) (col 0 0)) (is_client client)
    (λ r at_. alone_is _ ∙ eq_at (rowid r) (pos client) _ at_)
    (λ x y tied. ap is_eq (value_cmp_total.congr (rowid x) (rowid y) (Int (pos client)) tied))
    d.schema (client_table d.client.tree) d.client.at d.client.stands (client_free d)
    cut_client (cut_client_means d.schema d.client.tree d.client.at d.client.stands) old new count keeps.schema
    (keyed_shown shown_client (λ r. refl) (db d.client.tree) (all_permuted IsKeyed _ _ keeps.rows.2 keyed)) h)
    (subst (IsPermutation _) (filter-map (λ r. not (is_client client r)) shown_client (db d.client.tree))
    (IsPermutation-filter (λ r. not (is_client client r)) _ _ keeps.rows.2)) in
    (it.0, λ _. it.1)
leaves_change d old new rows (changes.AddEntry place e) count keeps keyed h shows = (
  leaves_entries d old new rows keeps shows _ _
      (inserts d.schema (codes "entry") d.entry.tree (entry_table 0).columns [] d.entry.at d.entry.stands (entry_free d)
      add_entry (entry_row_at place e.now) add_terms 5
      (stored place e.now.client e.now.number (body_spelling e.now.command))
      (add_means d.schema d.entry.tree d.entry.at d.entry.stands) old new count keeps.schema
      (rw (cast_int (pos place), cast_null, cast_int (pos e.now.client), cast_int (pos e.now.number)) refl) h)
      (IsPermutation-cons _ _ _ keeps.rows.1),
  λ none. absurd none,
)
leaves_change d old new rows (changes.AddClient client number place) count keeps keyed h shows =
    let it = leaves_clients d old new rows keeps shows _ _
    (inserts d.schema (codes "client") d.client.tree (client_table 0).columns [] d.client.at d.client.stands
    (client_free d)
    add_client (Int (pos client) ∷ Int (pos number) ∷ Int (pos place) ∷ []) client_terms 4
    (stored_client client number place)
    (add_client_means d.schema d.client.tree d.client.at d.client.stands) old new count keeps.schema
    (rw (cast_int (pos client), cast_null, cast_int (pos number), cast_int (pos place)) refl) h)
    (IsPermutation-cons _ _ _ keeps.rows.2) in
    (it.0, λ _. it.1)
leaves_change d old new rows (changes.PutFirst id n domain) count keeps none h shows =
    let row = node_row 2 id n domain.now 0 0 0 in
    let w = inserts d.schema (codes "node") d.node.tree (node_table 0).columns (slot_is_one ∷ []) d.node.at
    d.node.stands
    (node_free d) first_node (Int (pos id) ∷ Int (pos n) ∷ Words domain.now ∷ []) first_terms 9 row
    (first_means d.schema d.node.tree d.node.at d.node.stands) old new count keeps.schema
    (rw (cast_int (pos 1), cast_null, cast_int (pos 2), cast_int (pos id), cast_int (pos n), cast_int (pos 0))
    refl) h in
    let before : old.now.trees d.node.tree ≡ [] = no_rows _ (keeps.rows.0 ∙ none) in
    let after : new.now.trees d.node.tree ≡ row ∷ [] =
    one_permutation row _ (subst (λ l. IsPermutation (row ∷ l) (new.now.trees d.node.tree)) before w.rows_are) in
    let it = leaves_own d old new rows keeps shows _ _ w
    (ap (map shown_node) after ∙ ap (λ l. own_row id n domain.now 0 0 0 ∷ l) (sym none)) in
    (it.0, λ _. it.1)
leaves_change d old new rows (changes.SetNumbers view normal commit) count keeps own h shows =
    let it = leaves_update d old new rows set_node
    (Int (pos view) ∷ Int (pos normal) ∷ Int (pos commit) ∷ []) set_terms 2
    own view normal commit count _ (set_means d.schema d.node.tree d.node.at d.node.stands)
    (λ r is. picks_numbers r own.id own.n own.domain own.view own.normal own.commit view normal commit is)
    (ap (map (with_numbers view normal commit)) (sym own.is)) keeps h shows in
    (it.0, λ _. it.1)
leaves_change d old new rows changes.SetVersion count keeps own h shows =
    let it = leaves_update d old new rows set_version [] version_terms 1 own own.view own.normal own.commit count _
    (version_means d.schema d.node.tree d.node.at d.node.stands)
    (λ r is. picks_version r own.id own.n own.domain own.view own.normal own.commit is)
    (ap (map with_version) (sym own.is)) keeps h shows in
    (it.0, λ _. it.1)

pub apt_next : (all : List RowStep) (k : ℕ) (c : RowStep) (rows : StateRows) → k < length all → c ≡ get_or all k c
    → AreApt (take (k + 1) all) rows → AreApt (take k all) rows × IsAptStep c (effects (take k all) rows)
apt_next [] k c rows low is h = absurd (omega arith)
apt_next (x ∷ all) zero c rows low is h = (tt, subst (λ y. IsAptStep y rows) (sym is) h.0)
apt_next (x ∷ all) (suc k) c rows low is h =
    let next : suc k + 1 ≡ suc (k + 1) = omega arith in
    let whole : AreApt (x ∷ take (k + 1) all) rows = rw next at h in
    let more = apt_next all k c (step_effect x rows) (omega arith) is whole.1 in
    ((whole.0, more.0), more.1)

pub one_more_effect : (all : List RowStep) (k : ℕ) (c : RowStep) (rows : StateRows) → k < length all
    → c ≡ get_or all k c
    → step_effect c (effects (take k all) rows) ≡ effects (take (k + 1) all) rows
one_more_effect [] k c rows low is = absurd (omega arith)
one_more_effect (x ∷ all) zero c rows low is = rw is refl
one_more_effect (x ∷ all) (suc k) c rows low is =
    let next : suc k + 1 ≡ suc (k + 1) = omega arith in
    rw next (one_more_effect all k c (step_effect x rows) (omega arith) is)

pub all_next : (P : RowStep → Type 0) (all : List RowStep) (k : ℕ) (c : RowStep) → k < length all → c ≡ get_or all k c
    → AllByRecursion P (take k all) → P c → AllByRecursion P (take (k + 1) all)
all_next P [] k c low is h one = absurd (omega arith)
all_next P (x ∷ all) zero c low is h one = (subst P is one, tt)
all_next P (x ∷ all) (suc k) c low is h one =
    let next : suc k + 1 ≡ suc (k + 1) = omega arith in
    rw next (h.0, all_next P all k c (omega arith) is h.1 one)

-- all of one step more are all of those before it, and it
pub all_before : (P : RowStep → Type 0) (all : List RowStep) (k : ℕ) (c : RowStep) → k < length all
    → c ≡ get_or all k c → AllByRecursion P (take (k + 1) all) → AllByRecursion P (take k all) × P c
all_before P [] k c low is h = absurd (omega arith)
all_before P (x ∷ all) zero c low is h = (tt, subst P (sym is) h.0)
all_before P (x ∷ all) (suc k) c low is h =
    let next : suc k + 1 ≡ suc (k + 1) = omega arith in
    let whole : AllByRecursion P (x ∷ take (k + 1) all) = rw next at h in
    let more = all_before P all k c (omega arith) is whole.1 in
    ((whole.0, more.0), more.1)

-- ---- what it makes, by what its statement does, and several in a row

module _ {S : Type 0} (g : Ghosts S) where
  pub quiet_none : (s : Held S) → Quiet g s s (Ok tt)
  quiet_none s =
      record {
        survives = commits_no (state g s);
        preserved = λ _. keeps_none (state g s);
        inside =
            λ clean inside. inside;
      }

  pub quiet_then : (a b c : Held S) (r : Result (Unit {0}) Error) → Quiet g a b (Ok tt) → Quiet g b c r → Quiet g a c r
  quiet_then a b c r p q =
      let low : HasCleanDisk (state g c) → HasCleanDisk (state g b) = λ clean. omega (arith, q.survives.clean) in
      record {
        survives = commits_nothing (state g a) (state g b) (state g c) p.survives q.survives;
        preserved = λ clean. keeps_then (state g a) (state g b) (state g c) (p.preserved (low clean))
            (q.preserved clean);
        inside = λ clean inside. q.inside clean (p.inside (low clean) inside);
      }

  quiet_err : (a b : Held S) (e f : Error) → Quiet g a b (Err e) → Quiet g a b (Err f)
  quiet_err a b e f p = record { survives = p.survives; preserved = p.preserved; inside = λ clean inside. tt }

  -- what is refused makes nothing, whatever it was to make
  pub makes_no : (a b : Held S) (Stands : Layout → Database → StateRows → Type 0) (Apt : StateRows → Type 0)
      (made : StateRows → StateRows) (Spared : Type 0) (e f : Error) → Quiet g a b (Err e)
      → MakesRows g a b Stands Apt (Err f) made Spared
  makes_no a b Stands Apt made Spared e f p =
      record { rows = λ clean inside d rows stands apt. tt; quiet = quiet_err a b e f p }

  pub makes : (old new : Held S) (c : RowChange) (r : Result (Unit {0}) Error)
      → Ran g old new (sql_of c) (values_of c) r → MakesRows g old new Keeps (IsApt c) r (change_effect c) (Spares c)
  makes old new c (Ok done) it = record {
    rows = λ clean inside d rows keeps apt. let h = it.ran clean inside.in_transaction in
        leaves_change d (state g old) (state g new) rows c h.0 keeps apt h.1.0 h.1.1;
    quiet = it.quiet;
  }
  makes old new c (Err e) it = makes_no old new Keeps (IsApt c) (change_effect c) (Spares c) e e it.quiet

  -- the rows of the entries in another order
  pub makes_entries : (a b : Held S) (Apt : StateRows → Type 0) (made : StateRows → StateRows) (Spared : Type 0)
      (entries : StateRows → List Row) → ((rows : StateRows) → IsPermutation (entries rows) (made rows).entries)
      → MakesRows g a b Keeps Apt (Ok tt) made Spared
      → MakesRows g a b Keeps Apt (Ok tt) (λ rows. record (made rows) { entries = entries rows }) Spared
  makes_entries a b Apt made Spared entries same p = record {
    rows = λ clean inside d rows keeps apt.
        let it = p.rows clean inside d rows keeps apt in
        (leaves_as d (state g a) (state g b) _ _ (same rows) it.0, it.1);
    quiet = p.quiet;
  }

  -- no statement makes nothing, where the rows are already what they were to become
  pub makes_same : (s : Held S) (Apt : StateRows → Type 0) (made : StateRows → StateRows) (Spared : Type 0)
      → ((rows : StateRows) → Apt rows → rows ≡ made rows) → MakesRows g s s Keeps Apt (Ok tt) made Spared
  makes_same s Apt made Spared same = record {
    rows = λ clean inside d rows keeps apt. (
      subst (Leaves d (state g s) (state g s)) (same rows apt) (unmoved d (state g s) rows inside keeps),
      λ _. refl,
    );
    quiet = quiet_none s;
  }

  pub makes_none : (s : Held S) (Spared : Type 0) → MakesRows g s s Keeps (AreApt []) (Ok tt) (effects []) Spared
  makes_none s Spared = makes_same s (AreApt []) (effects []) Spared (λ rows _. refl)

  -- what asks less of the rows makes the same of those that are as more asks
  pub makes_where : (a b : Held S) (Apt More : StateRows → Type 0) (made : StateRows → StateRows) (Spared : Type 0)
      → ((rows : StateRows) → More rows → Apt rows) → (r : Result (Unit {0}) Error)
      → MakesRows g a b Keeps Apt r made Spared → MakesRows g a b Keeps More r made Spared
  makes_where a b Apt More made Spared apt r p = record {
    rows = λ clean inside d rows keeps more. p.rows clean inside d rows keeps (apt rows more);
    quiet = p.quiet;
  }

  module _ (a b c : Held S) (Stands : Layout → Database → StateRows → Type 0) (Apt Apt1 Apt2 : StateRows → Type 0)
      (first then : StateRows → StateRows) (apt : (rows : StateRows) → Apt rows → Apt1 rows × Apt2 (first rows))
      (Spared Spared1 Spared2 : Type 0) (spared : Spared → Spared1 × Spared2) where
    pub makes_then : (r : Result (Unit {0}) Error) → MakesRows g a b Stands Apt1 (Ok tt) first Spared1
        → MakesRows g b c Keeps Apt2 r then Spared2 → MakesRows g a c Stands Apt r (λ rows. then (first rows)) Spared
    makes_then (Ok done) p q = record {
      rows = λ clean inside d rows stands asked.
          let low : HasCleanDisk (state g b) = omega (arith, q.quiet.survives.clean) in
          let one = p.rows low inside d rows stands (apt rows asked).0 in
          let two = q.rows clean (still_inside d (state g a) (state g b) _ one.0) d _ one.0.keeps
          (apt rows asked).1 in (
            leaves_then d (state g a) (state g b) (state g c) _ _ one.0 two.0,
            λ spares. two.1 (spared spares).1 ∙ one.1 (spared spares).0,
          );
      quiet = quiet_then a b c (Ok done) p.quiet q.quiet;
    }
    makes_then (Err e) p q = makes_no a c Stands Apt _ Spared e e (quiet_then a b c (Err e) p.quiet q.quiet)

  pub makes_as : (a b : Held S) (Apt : StateRows → Type 0) (made as_ : StateRows → StateRows) (Spared : Type 0)
      → ((rows : StateRows) → made rows ≡ as_ rows) → MakesRows g a b Keeps Apt (Ok tt) made Spared
      → MakesRows g a b Keeps Apt (Ok tt) as_ Spared
  makes_as a b Apt made as_ Spared same p = record {
    rows = λ clean inside d rows keeps apt.
        let it = p.rows clean inside d rows keeps apt in
        (subst (Leaves d (state g a) (state g b)) (same rows) it.0, it.1);
    quiet = p.quiet;
  }
