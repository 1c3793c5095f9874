-- Tables of ids and kinds of nodes: one id has one number.
use Rattle.std.proofs.Common.{◌≡◌, refl, sym, ap, ◌∙◌, subst, ℕ, Bool, true, false, true≢false, MatchBool, List, Option, Some, None, slice_get}
use denote.Enum.Bare.{sameb}
use Rattle.net_values.specs.contracts.node_kind.NodeKind.{the_type}
use Rattle.std.proofs.lemmas.Option.{some_pair_parts, none-some}
use Rattle.net_values.specs.declared.node_kind.NodeKind.{NodeKind}
use Rattle.page_flatten.specs.Rules.{AreDistinct, NamesNode}
use Rattle.page_flatten.specs.Tables.{table_ids}
use Rattle.page_flatten.proofs.Lists.{some_is, get_map}

module _ (table : List (List ℕ × Option NodeKind)) where
  -- the id at a number of the table
  pub id_at : (n : ℕ) (id : List ℕ) (kind : Option NodeKind) → slice_get table n ≡ Some (id, kind) → slice_get (table_ids table) n ≡ Some id
  id_at n id kind at = get_map (λ entry. entry.0) table n (id, kind) at

  pub one_number : AreDistinct (table_ids table) → (m n : ℕ) (id : List ℕ) (a b : Option NodeKind) → slice_get table m ≡ Some (id, a) → slice_get table n ≡ Some (id, b) → m ≡ n
  one_number distinct m n id a b one other = distinct m n id (id_at m id a one) (id_at n id b other)

  pub one_kind : AreDistinct (table_ids table) → (m n : ℕ) (id : List ℕ) (a b : Option NodeKind) → slice_get table m ≡ Some (id, a) → slice_get table n ≡ Some (id, b) → a ≡ b
  one_kind distinct m n id a b one other =
      let same : m ≡ n = one_number distinct m n id a b one other in
      (some_pair_parts id id a b (sym one ∙ subst (λ k. slice_get table k ≡ Some (id, b)) (sym same) other)).1

  -- where the one element with the id is no node, no node has the id
  pub no_node : AreDistinct (table_ids table) → (m : ℕ) (id : List ℕ) → slice_get table m ≡ Some (id, None) → (n : ℕ) (kind : NodeKind) → slice_get table n ≡ Some (id, Some kind) → ⊥
  no_node distinct m id none n kind at = none-some kind (one_kind distinct m n id None (Some kind) none at)

-- what the comparison of two kinds says
pub same_kind : (a b : NodeKind) (same : Bool) → same ≡ sameb the_type a b → MatchBool same (a ≡ b) (a ≡ b → ⊥)
same_kind NodeKind.Place NodeKind.Place true is = refl
same_kind NodeKind.Place NodeKind.Place false is = absurd (true≢false (sym is))
same_kind NodeKind.Place NodeKind.Transition true is = absurd (true≢false is)
same_kind NodeKind.Place NodeKind.Transition false is = λ e. cc
same_kind NodeKind.Transition NodeKind.Place true is = absurd (true≢false is)
same_kind NodeKind.Transition NodeKind.Place false is = λ e. cc
same_kind NodeKind.Transition NodeKind.Transition true is = refl
same_kind NodeKind.Transition NodeKind.Transition false is = absurd (true≢false (sym is))

-- the one node with the id is of the kind, or no node with the id is
pub names_kind : (table : List (List ℕ × Option NodeKind)) → AreDistinct (table_ids table) → (n : ℕ) (id : List ℕ) (found kind : NodeKind) (same : Bool) → slice_get table n ≡ Some (id, Some found) → same ≡ sameb the_type found kind → MatchBool same (NamesNode table id kind) (NamesNode table id kind → ⊥)
names_kind table distinct n id found kind same at is = go same (same_kind found kind same is)
  where
    go : (b : Bool) → MatchBool b (found ≡ kind) (found ≡ kind → ⊥) → MatchBool b (NamesNode table id kind) (NamesNode table id kind → ⊥)
    go true e = (n, at ∙ ap (λ k. Some (id, Some k)) e)
    go false other = λ named. other (some_is (one_kind table distinct n named.0 id (Some found) (Some kind) at named.1))
