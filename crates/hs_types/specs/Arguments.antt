-- Arguments: which fit a rule, and where they send its nodes.
use Rattle.std.specs.Prelude.{ℕ, ◌≡◌, List, [], map, Bool, true, false, ◌&&◌, Option, Some, None, IsSomeAnd, IfSome, slice_get}
use Rattle.std.specs.List.{All, find, list_any}
use Rattle.std.specs.Option.{option_map, option_and_then}
use Rattle.hs_expr.specs.declared.value.Value.{Value}
use Rattle.hs_expr.specs.declared.value.Value.TheVariants as value
use Rattle.hs_expr.specs.Evaluation.{kind_of}
use Rattle.hs_types.specs.declared.graph.Graph.{Graph}
use Rattle.hs_types.specs.declared.request.Arg.{Arg}
use Rattle.hs_types.specs.declared.request.Arg.TheVariants as arg
use Rattle.hs_types.specs.declared.request.Args.{Args}
use Rattle.hs_types.specs.declared.rule.Direction.{Direction}
use Rattle.hs_types.specs.declared.rule.Direction.TheVariants.{In, Out}
use Rattle.hs_types.specs.declared.rule.Param.{Param}
use Rattle.hs_types.specs.declared.rule.ParamKind.{ParamKind}
use Rattle.hs_types.specs.declared.rule.ParamKind.TheVariants as kind
use Rattle.hs_types.specs.declared.rule.PatternNode.{PatternNode}
use Rattle.hs_types.specs.declared.rule.Rule.{Rule}
use Rattle.hs_expr.specs.Lists.{same_text, EachPair}
use Rattle.hs_expr.specs.Lexicographic.{IsBefore}
use Rattle.hs_types.specs.TypedGraph.{name_at}

-- A call that gives no argument.
abbrev pub no_args : Args
no_args = record { list = [] }

abbrev pub is_in : Direction → Bool
is_in In = true
is_in Out = false

-- The argument of this name.
abbrev pub argument_named : Args → List ℕ → Option Arg
argument_named args name = option_map (λ a. a.arg) (find (λ a. same_text a.name name) args.list)

abbrev pub value_in_arg : Arg → Option Value
value_in_arg (arg.Value v) = Some v
value_in_arg (arg.Object name) = None

abbrev pub object_in_arg : Arg → Option (List ℕ)
object_in_arg (arg.Value v) = None
object_in_arg (arg.Object name) = Some name

abbrev pub value_argument : Args → List ℕ → Option Value
value_argument args name = option_and_then value_in_arg (argument_named args name)

abbrev pub object_argument : Args → List ℕ → Option (List ℕ)
object_argument args name = option_and_then object_in_arg (argument_named args name)

-- The value that is given to the rule's parameter of this number.
abbrev pub param_value : Rule → Args → ℕ → Option Value
param_value rule args number =
    option_and_then (λ param. value_argument args param.name) (slice_get rule.params number)

-- Where a parameter wants a value, one of its kind; where it wants an object, any name.
abbrev pub IsOfKind : ParamKind → Arg → Type 0
IsOfKind (kind.Data k) (arg.Value v) = kind_of v ≡ k
IsOfKind (kind.Object class) (arg.Object name) = Unit {0}
IsOfKind _ _ = ⊥

-- The arguments are those that the rule takes: one of the right kind for each in parameter, and no
-- other. Each name is there once, in byte order.
pub record ArgsFit (params : List Param) (args : Args) : Type 0 where
  pub names_rise : EachPair (λ a b. IsBefore a.name b.name) args.list
  pub each_given : All (λ param. is_in param.direction ≡ true
      → IsSomeAnd (argument_named args param.name) (IsOfKind param.kind)) params
  pub each_taken : All (λ a. list_any
      (λ param. is_in param.direction && same_text param.name a.name) params ≡ true) args.list

-- A text that is given to a parameter for an object is that object's name.
abbrev pub as_arg : Option ParamKind → Arg → Arg
as_arg (Some (kind.Object class)) (arg.Value (value.Text name)) = arg.Object name
as_arg _ given = given

-- A request's arguments as a callee with these parameters takes them.
abbrev pub as_given : List Param → Args → Args
as_given params args = record {
  list =
      map (λ given. record {
        name = given.name;
        arg = as_arg (option_map (λ param. param.kind)
            (find (λ param. same_text param.name given.name) params)) given.arg;
      }) args.list;
}

-- A node that an argument names is mapped to the object of the argument's name; any other node to
-- any object.
abbrev pub Follows : Graph → Args → PatternNode → ℕ → Type 0
Follows g args node n = IfSome (object_argument args node.name) (λ name. name_at g n ≡ Some name)
