-- What the SELECT of `node` answers.
use Rattle.std.proofs.Common.{◌≡◌, List, [], ◌∷◌, map, flat_map, IsPermutation, refl, sym, ap, subst, ◌∙◌, ℕ, length}
use Rattle.std.proofs.lemmas.List.Sorted.{IsPermutation-map, IsPermutation-sym}
use Rattle.sqlite_value.specs.declared.value.Value.TheVariants.{Null}
use Rattle.sqlite_value.specs.Order.{Row}
use Rattle.sqlite_sql.specs.Query.{IsAnswer, output, Output}
use Rattle.sqlite_sql.specs.Program.{overlay}
use Rattle.sqlite_trees.specs.Tree.{Trees}
use Rattle.sqlite_schema.specs.declared.command.Command.TheVariants.{Select}
use Rattle.sqlite.specs.Listing.{understood}
use Rattle.sqlite.specs.State.{State, Shown, ShowsRows, IsUnchanged}
use Rattle.sqlite.proofs.Callers.{reads_as, IsPlain, command_of, one_permutation}
use Rattle.desk_naming.specs.Tables.{read_node}
use Rattle.desk_naming.specs.Named.{NodeTable, shown_node, HasNodeTable}
use Rattle.desk_naming.proofs.NodeRow.{node_any, node_unlisted, node_query, node_names}
use Rattle.std.specs.List.{AllByRecursion}
use Rattle.sqlite_schema.specs.declared.schema.Schema.{Schema}
use Rattle.sqlite.specs.Clock.{timed}
use Rattle.desk_naming.proofs.Common.{all_permuted}

node_preserved : (rows : List Row) → map (output (node_query 0)) (flat_map (λ r. ([] ∷ r ∷ []) ∷ []) rows) ≡ map
    (λ r. ([], shown_node r)) rows
node_preserved [] = refl
node_preserved (r ∷ rows) = ap (λ l. ([], shown_node r) ∷ l) (node_preserved rows)

node_rows_of : (rows : List Row) → map (λ (o : Output). o.1) (map (λ r. ([], shown_node r)) rows) ≡ map shown_node
    rows
node_rows_of [] = refl
node_rows_of (r ∷ rows) = ap (λ l. shown_node r ∷ l) (node_rows_of rows)

-- the rows of `node`, in some order
pub node_shown : (d : NodeTable) (old new : State) (rows : List Row) → old.now.schema ≡ d.schema
    → Shown read_node [] old new rows → IsPermutation rows (map shown_node (old.now.trees d.node.tree))
node_shown d old new rows schema h =
    let known = node_any d.schema d.node.tree d.node.at d.node.stands in
    let got = reads_as read_node [] old new d.schema schema
    (Select (record { lets = []; body = node_query d.node.tree }) node_names) (ap command_of known)
    (subst IsPlain (sym known) (refl, refl)) (node_unlisted d.schema d.node.tree d.node.at d.node.stands) rows h in
    let answer : IsAnswer (node_query d.node.tree) (overlay old.now.trees []) [] rows = got.answer Null in
    let preserved : answer.kept ≡ map (λ r. ([], shown_node r)) (old.now.trees d.node.tree) =
    answer.distinct ∙ ap (map (output (node_query 0))) (let grouped = rw d.node.stands.own.small at answer.grouped in
    grouped) ∙ node_preserved (old.now.trees d.node.tree) in
    let mixed = IsPermutation-map (λ (o : Output). o.1) _ _
    (subst (λ k. IsPermutation k answer.ordered) preserved answer.same) in
    IsPermutation-sym _ _ (subst (λ l. IsPermutation (map shown_node (old.now.trees d.node.tree)) l) (sym answer.shown)
    (subst (λ l. IsPermutation l (map (λ (o : Output). o.1) answer.ordered)) (node_rows_of (old.now.trees d.node.tree))
    mixed))

-- a query changes nothing
pub unchanged_by : (sql : List ℕ) (params : Row) (old new : State) (rows : List Row)
    → IsPlain (understood old.now.schema sql) → Shown sql params old new rows → IsUnchanged old new
unfolding Shown
unchanged_by sql params old new rows plain h =
    let none = (subst IsPlain h.1.is plain).0 in
    let full = timed params h.0.formats h.1.now in
    (subst (ShowsRows old new sql h.0 full rows) none h.2).3

eight : (rows : List Row) → AllByRecursion (λ row. length row ≡ 8) (map shown_node rows)
eight [] = tt
eight (r ∷ rows) = (refl, eight rows)

pub plain_node : (schema : Schema) → HasNodeTable schema → IsPlain (understood schema read_node)
plain_node schema stand =
    let d = stand.0 in
    subst (λ sc. IsPlain (understood sc read_node)) (sym stand.1)
    (subst IsPlain (sym (node_any d.schema d.node.tree d.node.at d.node.stands)) (refl, refl))

-- rows that are those of `node`, in any order
module _ (trees : Trees) (node : ℕ) (rows : List Row) (shown : IsPermutation rows (map shown_node (trees node))) where
  pub node_wide : AllByRecursion (λ row. length row ≡ 8) rows
  node_wide = all_permuted (λ row. length row ≡ 8) _ _ (IsPermutation-sym _ _ shown) (eight (trees node))

  -- one row alone is the same in any order
  pub one_shown : (row : Row) → map shown_node (trees node) ≡ row ∷ [] → rows ≡ row ∷ []
  one_shown row one = one_permutation _ rows (IsPermutation-sym _ _ (subst (IsPermutation rows) one shown))

  pub one_stands : (row : Row) → rows ≡ row ∷ [] → map shown_node (trees node) ≡ row ∷ []
  one_stands row is = one_permutation _ _ (subst (λ l. IsPermutation l (map shown_node (trees node))) is shown)
