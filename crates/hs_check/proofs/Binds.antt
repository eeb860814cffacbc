-- What fits by names fits by numbers: kinds, values that are given, and binds.
use Rattle.std.proofs.Common.{ℕ, ◌<◌, ◌≡◌, ◌&&◌, ◌||◌, List, [], ◌∷◌, Bool, true, false, cond, not, is_some, map, take, length, nat_lt, Option, Some, None, IsSome, IsSomeAnd, if◌then◌else◌, slice_get, refl, ap, sym, ◌∙◌, subst, zero-add}
use Rattle.std.proofs.lemmas.Bool.{and_parts, false≢true}
use Rattle.std.proofs.lemmas.Option.{none-some, same_Some}
use Rattle.std.proofs.lemmas.List.Elements.{All-map}
use Rattle.std.specs.Cmp.Lexicographic.{nat_list_eq_equiv}
use Rattle.std.specs.List.{All, filter, list_all, list_any, position}
use Rattle.std.specs.Option.{option_map_or, unwrap_or}
use Rattle.hs_expr.specs.declared.Kind.{Kind}
use Rattle.hs_expr.specs.declared.Kind.TheVariants as sort
use Rattle.hs_expr.specs.Verdict.{fault_if}
use Rattle.hs_text.specs.declared.syntax.Atom.{Atom as WrittenAtom}
use Rattle.hs_text.specs.declared.syntax.Atom.TheVariants as written_atom
use Rattle.hs_text.specs.declared.syntax.Bind.{Bind as WrittenBind}
use Rattle.hs_text.specs.declared.syntax.Bind.TheVariants as written_bind
use Rattle.hs_text.specs.declared.syntax.Call.{Call as WrittenCall}
use Rattle.hs_text.specs.declared.syntax.Direction.{Direction as WrittenDirection}
use Rattle.hs_text.specs.declared.syntax.Direction.TheVariants as given
use Rattle.hs_text.specs.declared.syntax.Param.{Param as WrittenParam}
use Rattle.hs_types.specs.declared.meta.Class.{Class}
use Rattle.hs_types.specs.declared.meta.Metamodel.{Metamodel}
use Rattle.hs_types.specs.declared.rule.Direction.TheVariants.{In, Out}
use Rattle.hs_types.specs.declared.rule.Param.{Param}
use Rattle.hs_types.specs.declared.rule.ParamKind.TheVariants.{Data, Object}
use Rattle.hs_types.specs.declared.unit.Bind.{Bind}
use Rattle.hs_expr.specs.Lists.{Differ, same_text}
use Rattle.hs_types.specs.Metamodel.{class_at, supers_of}
use Rattle.hs_types.specs.Metamodel.{conforms}
use Rattle.hs_types.specs.UnitForm as form
use Rattle.hs_faults.specs.Bound.{tied_name}
use Rattle.hs_faults.specs.Declarations.{is_again}
use Rattle.hs_faults.specs.Names.{class_number, data_named, as_number}
use Rattle.hs_faults.specs.ParamNodes.{is_out}
use Rattle.hs_faults.specs.StatementFaults.{same_kind}
use Rattle.hs_faults.specs.UnitFaults.{argument_faults, are_served, bind_faults, bind_fits, class_fits, class_of_kind, data_fits, faults_of_binds, gives_data_back, is_bound, is_data, is_given, is_goal, takes_value, is_known_kind, is_taken, meant_params, object_fits, first_param, value_fits}
use Rattle.hs_types.proofs.Conforming.{conforms_to}
use Rattle.hs_check.specs.Parameters.{class_meant, direction_meant, kind_meant, param_meant, params_meant}
use Rattle.hs_check.specs.Units.{atom_meant, bind_meant}
use Rattle.hs_check.proofs.Uniqueness.{HaveOwn, names_apart}
use Rattle.hs_check.proofs.Lookups.{came, tested}
use Rattle.hs_check.proofs.Scopes.{in_is}
use Rattle.hs_check.proofs.Filters.{EachPair-from, EachPair-map, all_filtered, any_made, each_kept, some_within}
use Rattle.hs_check.proofs.NoFaults.{kinds_same, yes_test}
use Rattle.hs_expr.proofs.Items.{All-from, position_within}
use Rattle.hs_expr.proofs.Clean.{clean_at, empty_parts, no_test}

-- ---- kinds

-- What is of a class by its name is of it by its number.
of_class : (m : Metamodel) (word : List ℕ) (c : ℕ) → class_of_kind m word ≡ Some c → kind_meant m word ≡ Object c
of_class m word c e = go (data_named word) e
  where
    go : (o : Option Kind) → (if is_some o then None else class_number m word) ≡ Some c → option_map_or Data o (Object (class_meant m word)) ≡ Object c
    go (Some k) e = absurd (none-some c e)
    go None e = ap (λ (o : Option ℕ). Object (unwrap_or o 0)) e

classes_fit : (m : Metamodel) (word wanted : List ℕ) → class_fits m word wanted ≡ true → form.KindFits m (kind_meant m word) (kind_meant m wanted)
classes_fit m word wanted e = go (class_of_kind m word) (class_of_kind m wanted) refl refl e
  where
    go : (o p : Option ℕ) → class_of_kind m word ≡ o → class_of_kind m wanted ≡ p → option_map_or (λ c. option_map_or (λ d. conforms (supers_of m) c d) p false) o false ≡ true → form.KindFits m (kind_meant m word) (kind_meant m wanted)
    go None p is_c is_d e = absurd (false≢true e)
    go (Some c) None is_c is_d e = absurd (false≢true e)
    go (Some c) (Some d) is_c is_d e = rw (of_class m word c is_c, of_class m wanted d is_d) (conforms_to m c d e)

pub data_is : (m : Metamodel) (k : Kind) (word : List ℕ) → option_map_or (λ found. same_kind found k) (data_named word) false ≡ true → kind_meant m word ≡ Data k
data_is m k word e = go (data_named word) e
  where
    go : (o : Option Kind) → option_map_or (λ found. same_kind found k) o false ≡ true → option_map_or Data o (Object (class_meant m word)) ≡ Data k
    go None e = absurd (false≢true e)
    go (Some found) e = ap Data (kinds_same found k e)

-- ---- parameters

pub is_not : (b : Bool) → not b ≡ true → b ≡ false
is_not true e = sym e
is_not false e = refl

out_is : (direction : WrittenDirection) → is_out direction ≡ true → direction_meant direction ≡ Out
out_is given.In e = absurd (false≢true e)
out_is given.Out e = refl

-- What a parameter passes by its name, it is found with by its meaning.
pub named_meant : (m : Metamodel) (params : List WrittenParam) (name : List ℕ) (test : WrittenParam → Bool) (P : Param → Type 0) → ((p : WrittenParam) → test p ≡ true → P (param_meant m p)) → option_map_or test (first_param params name) false ≡ true → IsSomeAnd (form.param_named (params_meant m params) name) P
named_meant m [] name test P h e = absurd (false≢true e)
named_meant m (p ∷ params) name test P h e = go (same_text name p.name.text) (same_text p.name.text name) (nat_list_eq_equiv.symm name p.name.text) e (named_meant m params name test P h)
  where
    go : (b c : Bool) → b ≡ c → option_map_or test (cond b (Some p) (first_param params name)) false ≡ true → (option_map_or test (first_param params name) false ≡ true → IsSomeAnd (form.param_named (params_meant m params) name) P) → IsSomeAnd (cond c (Some (param_meant m p)) (form.param_named (params_meant m params) name)) P
    go true true same e rest = h p e
    go true false same e rest = absurd (false≢true (sym same))
    go false true same e rest = absurd (false≢true same)
    go false false same e rest = rest e

-- A class that is named is there.
class_stands : (m : Metamodel) (word : List ℕ) (c : ℕ) → class_number m word ≡ Some c → IsSome (class_at m c)
class_stands m word c e =
    let found = came (position (λ (class : Class). same_text class.name word) m.classes) as_number c e in
    let same = same_Some found.0 c (tested (nat_lt found.0 65536) (Some found.0) c found.2).1 in
    some_within m.classes c (subst (λ n. n < length m.classes) same (position_within (λ (class : Class). same_text class.name word) m.classes found.0 found.1))

-- A unit's parameter is for a value that is given, or for an object of a class that there is.
pub param_suits : (m : Metamodel) (p : WrittenParam) → is_known_kind m p.kind.text ≡ true → gives_data_back p ≡ false → form.UnitParamFits m (param_meant m p) (kind_meant m p.kind.text)
param_suits m p known back = go (data_named p.kind.text) known back
  where
    class_there : (o : Option ℕ) → class_number m p.kind.text ≡ o → is_some o ≡ true → IsSome (class_at m (unwrap_or o 0))
    class_there None is e = absurd (false≢true e)
    class_there (Some c) is e = class_stands m p.kind.text c is

    go : (o : Option Kind) → (is_some o || is_some (class_number m p.kind.text)) ≡ true → (is_some o && is_out p.direction) ≡ false → form.UnitParamFits m (param_meant m p) (option_map_or Data o (Object (class_meant m p.kind.text)))
    go (Some k) known back = in_is p.direction back
    go None known back = class_there (class_number m p.kind.text) refl known

-- ---- values that are given

data_suits : (m : Metamodel) (own : List WrittenParam) (k : Kind) (value : WrittenAtom) → data_fits own k value ≡ true → form.AtomFits m (params_meant m own) (atom_meant value) (Data k)
data_suits m own k (written_atom.Int minus n span) e = ap Data (kinds_same sort.Int k e)
data_suits m own k (written_atom.Text text span) e = ap Data (kinds_same sort.Text k e)
data_suits m own k (written_atom.Bool truth span) e = ap Data (kinds_same sort.Bool k e)
data_suits m own k (written_atom.Name name) e = named_meant m own name.text (is_data k) (λ (param : Param). form.KindFits m param.kind (Data k)) (λ p is. rw (data_is m k p.kind.text is) refl) e

object_suits : (m : Metamodel) (own : List WrittenParam) (wanted : List ℕ) (value : WrittenAtom) → object_fits m own wanted value ≡ true → form.AtomFits m (params_meant m own) (atom_meant value) (kind_meant m wanted)
object_suits m own wanted (written_atom.Int minus n span) e = absurd (false≢true e)
object_suits m own wanted (written_atom.Text text span) e = absurd (false≢true e)
object_suits m own wanted (written_atom.Bool truth span) e = absurd (false≢true e)
object_suits m own wanted (written_atom.Name name) e = named_meant m own name.text (λ (p : WrittenParam). class_fits m p.kind.text wanted) (λ (param : Param). form.KindFits m param.kind (kind_meant m wanted)) (λ p is. classes_fit m p.kind.text wanted is) e

value_suits : (m : Metamodel) (own : List WrittenParam) (wanted : List ℕ) (value : WrittenAtom) → value_fits m own wanted value ≡ true → form.AtomFits m (params_meant m own) (atom_meant value) (kind_meant m wanted)
value_suits m own wanted value e = go (data_named wanted) refl e
  where
    go : (o : Option Kind) → data_named wanted ≡ o → option_map_or (λ k. data_fits own k value) o (object_fits m own wanted value) ≡ true → form.AtomFits m (params_meant m own) (atom_meant value) (kind_meant m wanted)
    go None is e = object_suits m own wanted value e
    go (Some k) is e = subst (form.AtomFits m (params_meant m own) (atom_meant value)) (sym (ap (λ (o : Option Kind). option_map_or Data o (Object (class_meant m wanted))) is)) (data_suits m own k value e)

-- ---- binds

bind_suits : (m : Metamodel) (own params : List WrittenParam) (bind : WrittenBind) → bind_fits m own params bind ≡ true → form.BindFits m (params_meant m own) (params_meant m params) (bind_meant bind)
bind_suits m own params (written_bind.Give name value) e = named_meant m params name.text (is_given m own value) (λ (param : Param). (param.direction ≡ In) × form.AtomFits m (params_meant m own) (atom_meant value) param.kind) given_right e
  where
    given_right : (p : WrittenParam) → is_given m own value p ≡ true → (direction_meant p.direction ≡ In) × form.AtomFits m (params_meant m own) (atom_meant value) (kind_meant m p.kind.text)
    given_right p is =
        let parts = and_parts (takes_value p) (value_fits m own p.kind.text value) is in
        (in_is p.direction (is_not (is_out p.direction) parts.0), value_suits m own p.kind.text value parts.1)
bind_suits m own params (written_bind.Take name variable) e = named_meant m params name.text (is_taken m own variable.text) (λ (param : Param). (param.direction ≡ Out) × IsSomeAnd (form.param_named (params_meant m own) variable.text) (form.GoalFits m param.kind)) taken_right e
  where
    goal_right : (p goal : WrittenParam) → is_goal m p goal ≡ true → form.GoalFits m (kind_meant m p.kind.text) (param_meant m goal)
    goal_right p goal is =
        let parts = and_parts (is_out goal.direction) (class_fits m p.kind.text goal.kind.text) is in
        (out_is goal.direction parts.0, classes_fit m p.kind.text goal.kind.text parts.1)

    taken_right : (p : WrittenParam) → is_taken m own variable.text p ≡ true → (direction_meant p.direction ≡ Out) × IsSomeAnd (form.param_named (params_meant m own) variable.text) (form.GoalFits m (kind_meant m p.kind.text))
    taken_right p is =
        let parts = and_parts (is_out p.direction) (option_map_or (is_goal m p) (first_param own variable.text) false) is in
        (out_is p.direction parts.0, named_meant m own variable.text (is_goal m p) (form.GoalFits m (kind_meant m p.kind.text)) (goal_right p) parts.1)

-- The parameter that a bind ties, by its name.
name_same : (bind : WrittenBind) → form.bound_name (bind_meant bind) ≡ (tied_name bind).text
name_same (written_bind.Give name value) = refl
name_same (written_bind.Take name variable) = refl

binds_apart : (binds : List WrittenBind) → HaveOwn tied_name binds → Differ (map form.bound_name (map bind_meant binds))
binds_apart binds own = EachPair-map (λ x y. x ≡ y → ⊥) form.bound_name (map bind_meant binds)
    (EachPair-map (λ (a b : Bind). form.bound_name a ≡ form.bound_name b → ⊥) bind_meant binds
    (EachPair-from (λ (a b : WrittenBind). form.bound_name (bind_meant a) ≡ form.bound_name (bind_meant b) → ⊥) binds (λ i j a b low at_i at_j same.
    names_apart tied_name binds own i j a b low at_i at_j (sym (name_same a) ∙ same ∙ name_same b))))

-- Where each parameter has a name of its own, all of them count.
all_meant : (params : List WrittenParam) → HaveOwn (λ (p : WrittenParam). p.name) params → meant_params params ≡ params
all_meant params own = each_kept (λ i (p : WrittenParam). is_again (λ (other : WrittenParam). other.name) (take i params) p.name) 0 params
    (λ k p at. ap (λ i. is_again (λ (other : WrittenParam). other.name) (take i params) p.name) (zero-add k) ∙ own k p at)

-- A parameter to which something has to be given is tied.
all_tied : (m : Metamodel) (params : List WrittenParam) (binds : List WrittenBind) → list_all (is_bound binds) (filter takes_value params) ≡ true → All (λ param. param.direction ≡ In → list_any (λ bind. same_text (form.bound_name bind) param.name) (map bind_meant binds) ≡ true) (params_meant m params)
all_tied m params binds e = All-map (λ (param : Param). param.direction ≡ In → list_any (λ (bind : Bind). same_text (form.bound_name bind) param.name) (map bind_meant binds) ≡ true) (param_meant m) params
    (All-from (λ (p : WrittenParam). direction_meant p.direction ≡ In → list_any (λ (bind : Bind). same_text (form.bound_name bind) p.name.text) (map bind_meant binds) ≡ true) params (λ k p at is.
    any_made (λ (bind : WrittenBind). same_text p.name.text (tied_name bind).text) (λ (bind : Bind). same_text (form.bound_name bind) p.name.text) bind_meant binds
    (λ bind. ap (λ name. same_text name p.name.text) (name_same bind) ∙ nat_list_eq_equiv.symm (tied_name bind).text p.name.text)
    (all_filtered (is_bound binds) takes_value params e k p at (given_to p.direction is))))
  where
    given_to : (direction : WrittenDirection) → direction_meant direction ≡ In → not (is_out direction) ≡ true
    given_to given.In is = refl
    given_to given.Out is = cc

pub are_binds : (m : Metamodel) (own params : List WrittenParam) (call : WrittenCall) → HaveOwn (λ (p : WrittenParam). p.name) params → argument_faults m own params call ≡ [] → form.AreBinds m (params_meant m own) (params_meant m params) (map bind_meant call.binds)
are_binds m own params call new e =
    let a = empty_parts (faults_of_binds m own params call.callee call.binds) (fault_if (not (are_served params call.binds)) _) e in
    record {
      differ = binds_apart call.binds (λ k bind at. no_test _ _ (empty_parts _ (fault_if (not (bind_fits m own params bind)) _) (at_bind a.0 k bind at)).0);
      fit = All-map (form.BindFits m (params_meant m own) (params_meant m params)) bind_meant call.binds
          (All-from (λ (bind : WrittenBind). form.BindFits m (params_meant m own) (params_meant m params) (bind_meant bind)) call.binds (λ k bind at.
          bind_suits m own params bind (yes_test (bind_fits m own params bind) _ (empty_parts (fault_if (is_again tied_name (take k call.binds) (tied_name bind)) _) _ (at_bind a.0 k bind at)).1)));
      all_given = all_tied m params call.binds (subst (λ (ps : List WrittenParam). list_all (is_bound call.binds) (filter takes_value ps) ≡ true) (all_meant params new) (yes_test (are_served params call.binds) _ a.1));
    }
  where
    at_bind : faults_of_binds m own params call.callee call.binds ≡ [] → (k : ℕ) (bind : WrittenBind) → slice_get call.binds k ≡ Some bind → bind_faults m own params call.callee (take k call.binds) bind ≡ []
    at_bind none k bind at = clean_at (λ i (b : WrittenBind). bind_faults m own params call.callee (take i call.binds) b) call.binds none k bind at
