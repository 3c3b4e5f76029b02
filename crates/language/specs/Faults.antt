-- Which fault is told of a reading that has no type, and at which token (S092 to S094; rows 30 to 37). It is the first
-- in the paper's order: functions in order, then the last expression; in a tree, children from left to right before
-- their node.
use Rattle.std.specs.Prelude.{Bool, List, [], ◌∷◌, ◌≡◌, ℕ, ◌≤◌, ◌<◌, length}
use Rattle.std.proofs.Math.Option.{none, some}
use Rattle.language.specs.Sizes.{Sizes, BOX}
use Rattle.language.specs.Trees.{Name, Ty, int, bool, unit, refs, Unary, minus, not, fetch, new, Binary, Exp}
use Rattle.language.specs.Trees.{name, unary, binary, follow, group, block, call, bind, branch, loop}
use Rattle.language.specs.Trees.{counted, Exps, more, Param, Def, Program, Scope, empty, push, nearest, size}
use Rattle.language.specs.Types.{UnopTypeUnder, BinopType, Bounds, Sig, TypedUnder}
use Rattle.language.specs.Types.{TypedAllUnder, TakesUnder, with_def, given, RoomUnder, FineUnder}

-- ---- why a reading is refused

pub data Reason : Type 0 where
  -- no rule fits: a variable with no binding, a function not in sight, too many or too few arguments, and so on
  no_binding no_function wrong_number wrong_argument wrong_operand wrong_operands not_unit not_bool not_int
      branches_differ wrong_body : Reason
  -- a size is exceeded
  too_many_refs too_many_functions too_many_parameters : Reason
  -- a name is taken
  function_twice parameter_twice : Reason

-- why an operand does not suit a prefix operator: `ref` takes any type but one with as many `ref` as a type may have
unfoldable pub unsuited : Unary → Reason
unsuited minus = wrong_operand
unsuited not = wrong_operand
unsuited fetch = wrong_operand
unsuited new = too_many_refs

-- ---- expressions: every child is typed before its node asks anything

module _ (σ : Sizes) (Δ : Scope Sig) where
  mutual
    -- the first fault of e, and the token that it is told at
    pub data FaultUnder : Scope Ty → Exp → Reason → ℕ → Type 0 where
      f_name : {Γ : Scope Ty} {i : ℕ} {x : Name} → nearest x Γ ≡ none → FaultUnder Γ (name i x) no_binding i
      f_unary : {Γ : Scope Ty} {i : ℕ} {o : Unary} {e : Exp} {r : Reason} {n : ℕ} → FaultUnder Γ e r n
          → FaultUnder Γ (unary i o e) r n
      f_unary_here : {Γ : Scope Ty} {i : ℕ} {o : Unary} {e : Exp} {t : Ty} {r : Reason}
          → TypedUnder σ Δ Γ e t → ((u : Ty) → UnopTypeUnder σ o t u → ⊥) → unsuited o ≡ r
          → FaultUnder Γ (unary i o e) r i
      f_left : {Γ : Scope Ty} {i : ℕ} {o : Binary} {e f : Exp} {r : Reason} {n : ℕ} → FaultUnder Γ e r n
          → FaultUnder Γ (binary i o e f) r n
      f_right : {Γ : Scope Ty} {i : ℕ} {o : Binary} {e f : Exp} {t : Ty} {r : Reason} {n : ℕ}
          → TypedUnder σ Δ Γ e t → FaultUnder Γ f r n → FaultUnder Γ (binary i o e f) r n
      f_binary_here : {Γ : Scope Ty} {i : ℕ} {o : Binary} {e f : Exp} {t u : Ty}
          → TypedUnder σ Δ Γ e t → TypedUnder σ Δ Γ f u → ((v : Ty) → BinopType o t u v → ⊥)
          → FaultUnder Γ (binary i o e f) wrong_operands i
      f_first : {Γ : Scope Ty} {i : ℕ} {e f : Exp} {r : Reason} {n : ℕ} → FaultUnder Γ e r n
          → FaultUnder Γ (follow i e f) r n
      f_second : {Γ : Scope Ty} {i : ℕ} {e f : Exp} {t : Ty} {r : Reason} {n : ℕ}
          → TypedUnder σ Δ Γ e t → FaultUnder Γ f r n → FaultUnder Γ (follow i e f) r n
      f_follow_here : {Γ : Scope Ty} {i : ℕ} {e f : Exp} {t u : Ty}
          → TypedUnder σ Δ Γ e t → TypedUnder σ Δ Γ f u → (t ≡ unit → ⊥) → FaultUnder Γ (follow i e f) not_unit i
      f_group : {Γ : Scope Ty} {i : ℕ} {e : Exp} {r : Reason} {n : ℕ} → FaultUnder Γ e r n
          → FaultUnder Γ (group i e) r n
      f_block : {Γ : Scope Ty} {i : ℕ} {e : Exp} {r : Reason} {n : ℕ} → FaultUnder Γ e r n
          → FaultUnder Γ (block i e) r n
      f_arguments : {Γ : Scope Ty} {i : ℕ} {f : Name} {es : Exps} {r : Reason} {n : ℕ} → FaultAllUnder Γ es r n
          → FaultUnder Γ (call i f es) r n
      f_no_function : {Γ : Scope Ty} {i : ℕ} {f : Name} {es : Exps} {ts : List Ty}
          → TypedAllUnder σ Δ Γ es ts → nearest f Δ ≡ none → FaultUnder Γ (call i f es) no_function i
      f_wrong_number : {Γ : Scope Ty} {i : ℕ} {f : Name} {es : Exps} {ts : List Ty} {s : Sig}
          → TypedAllUnder σ Δ Γ es ts → nearest f Δ ≡ some s → (length ts ≡ length s.takes → ⊥)
          → FaultUnder Γ (call i f es) wrong_number i
      f_wrong_argument : {Γ : Scope Ty} {i : ℕ} {f : Name} {es : Exps} {ts : List Ty} {s : Sig}
          → TypedAllUnder σ Δ Γ es ts → nearest f Δ ≡ some s → length ts ≡ length s.takes → (ts ≡ s.takes → ⊥)
          → FaultUnder Γ (call i f es) wrong_argument i
      f_bound : {Γ : Scope Ty} {i : ℕ} {x : Name} {e f : Exp} {r : Reason} {n : ℕ} → FaultUnder Γ e r n
          → FaultUnder Γ (bind i x e f) r n
      f_inside : {Γ : Scope Ty} {i : ℕ} {x : Name} {e f : Exp} {t : Ty} {r : Reason} {n : ℕ}
          → TypedUnder σ Δ Γ e t → FaultUnder (push x t Γ) f r n → FaultUnder Γ (bind i x e f) r n
      f_if : {Γ : Scope Ty} {i : ℕ} {c e f : Exp} {r : Reason} {n : ℕ} → FaultUnder Γ c r n
          → FaultUnder Γ (branch i c e f) r n
      f_then : {Γ : Scope Ty} {i : ℕ} {c e f : Exp} {b : Ty} {r : Reason} {n : ℕ}
          → TypedUnder σ Δ Γ c b → FaultUnder Γ e r n → FaultUnder Γ (branch i c e f) r n
      f_else : {Γ : Scope Ty} {i : ℕ} {c e f : Exp} {b t : Ty} {r : Reason} {n : ℕ}
          → TypedUnder σ Δ Γ c b → TypedUnder σ Δ Γ e t → FaultUnder Γ f r n → FaultUnder Γ (branch i c e f) r n
      f_if_here : {Γ : Scope Ty} {i : ℕ} {c e f : Exp} {b t u : Ty}
          → TypedUnder σ Δ Γ c b → TypedUnder σ Δ Γ e t → TypedUnder σ Δ Γ f u → (b ≡ bool → ⊥)
          → FaultUnder Γ (branch i c e f) not_bool i
      f_branches_here : {Γ : Scope Ty} {i : ℕ} {c e f : Exp} {t u : Ty}
          → TypedUnder σ Δ Γ c bool → TypedUnder σ Δ Γ e t → TypedUnder σ Δ Γ f u → (t ≡ u → ⊥)
          → FaultUnder Γ (branch i c e f) branches_differ i
      f_while : {Γ : Scope Ty} {i : ℕ} {c e : Exp} {r : Reason} {n : ℕ} → FaultUnder Γ c r n
          → FaultUnder Γ (loop i c e) r n
      f_do : {Γ : Scope Ty} {i : ℕ} {c e : Exp} {b : Ty} {r : Reason} {n : ℕ} → TypedUnder σ Δ Γ c b
          → FaultUnder Γ e r n
          → FaultUnder Γ (loop i c e) r n
      f_while_here : {Γ : Scope Ty} {i : ℕ} {c e : Exp} {b t : Ty}
          → TypedUnder σ Δ Γ c b → TypedUnder σ Δ Γ e t → (b ≡ bool → ⊥) → FaultUnder Γ (loop i c e) not_bool i
      f_do_here : {Γ : Scope Ty} {i : ℕ} {c e : Exp} {t : Ty}
          → TypedUnder σ Δ Γ c bool → TypedUnder σ Δ Γ e t → (t ≡ unit → ⊥) → FaultUnder Γ (loop i c e) not_unit i
      -- R12.5: start, end and step, then the body, then what the `for` asks of them
      f_bounds : {Γ : Scope Ty} {i : ℕ} {x : Name} {b : Bool} {es : Exps} {e : Exp} {r : Reason} {n : ℕ}
          → FaultAllUnder Γ es r n → FaultUnder Γ (counted i x b es e) r n
      f_pass : {Γ : Scope Ty} {i : ℕ} {x : Name} {b : Bool} {es : Exps} {e : Exp} {ts : List Ty} {r : Reason} {n : ℕ}
          → TypedAllUnder σ Δ Γ es ts → FaultUnder (push x int Γ) e r n → FaultUnder Γ (counted i x b es e) r n
      f_bounds_here : {Γ : Scope Ty} {i : ℕ} {x : Name} {b : Bool} {es : Exps} {e : Exp} {ts : List Ty} {t : Ty}
          → TypedAllUnder σ Δ Γ es ts → TypedUnder σ Δ (push x int Γ) e t → (Bounds ts → ⊥)
          → FaultUnder Γ (counted i x b es e) not_int i
      f_pass_here : {Γ : Scope Ty} {i : ℕ} {x : Name} {b : Bool} {es : Exps} {e : Exp} {ts : List Ty} {t : Ty}
          → TypedAllUnder σ Δ Γ es ts → TypedUnder σ Δ (push x int Γ) e t → Bounds ts → (t ≡ unit → ⊥)
          → FaultUnder Γ (counted i x b es e) not_unit i

    pub data FaultAllUnder : Scope Ty → Exps → Reason → ℕ → Type 0 where
      f_one : {Γ : Scope Ty} {e : Exp} {es : Exps} {r : Reason} {n : ℕ} → FaultUnder Γ e r n
          → FaultAllUnder Γ (more e es) r n
      f_rest : {Γ : Scope Ty} {e : Exp} {es : Exps} {t : Ty} {r : Reason} {n : ℕ}
          → TypedUnder σ Δ Γ e t → FaultAllUnder Γ es r n → FaultAllUnder Γ (more e es) r n

-- ---- functions: 30 and 31 at the head, then each parameter, the result type, the body

module _ (σ : Sizes) where
  pub data FaultTakesUnder : Scope Ty → List Param → Reason → ℕ → Type 0 where
    p_ninth : {Γ : Scope Ty} {p : Param} {ps : List Param} → σ.parameters ≤ size Γ
        → FaultTakesUnder Γ (p ∷ ps) too_many_parameters p.at
    p_twice : {Γ : Scope Ty} {p : Param} {ps : List Param} {t : Ty}
        → size Γ < σ.parameters → nearest p.called Γ ≡ some t → FaultTakesUnder Γ (p ∷ ps) parameter_twice p.at
    p_refs : {Γ : Scope Ty} {p : Param} {ps : List Param}
        → size Γ < σ.parameters → nearest p.called Γ ≡ none → σ.refs < refs p.type
        → FaultTakesUnder Γ (p ∷ ps) too_many_refs p.at
    p_later : {Γ : Scope Ty} {p : Param} {ps : List Param} {r : Reason} {n : ℕ}
        → size Γ < σ.parameters → nearest p.called Γ ≡ none → refs p.type ≤ σ.refs
        → FaultTakesUnder (push p.called p.type Γ) ps r n → FaultTakesUnder Γ (p ∷ ps) r n

  pub data FaultDefUnder (Δ : Scope Sig) (d : Def) : Reason → ℕ → Type 0 where
    d_many : σ.functions < size Δ → FaultDefUnder Δ d too_many_functions d.at
    d_twice : {s : Sig} → RoomUnder σ Δ → nearest d.called Δ ≡ some s → FaultDefUnder Δ d function_twice d.named
    d_params : {r : Reason} {n : ℕ} → RoomUnder σ Δ → nearest d.called Δ ≡ none
        → FaultTakesUnder empty d.params r n
        → FaultDefUnder Δ d r n
    d_refs : {Γ : Scope Ty} → RoomUnder σ Δ → nearest d.called Δ ≡ none → TakesUnder σ empty d.params Γ
        → σ.refs < refs d.result
        → FaultDefUnder Δ d too_many_refs d.at
    d_body : {Γ : Scope Ty} {r : Reason} {n : ℕ}
        → RoomUnder σ Δ → nearest d.called Δ ≡ none → TakesUnder σ empty d.params Γ → refs d.result ≤ σ.refs
        → FaultUnder σ (with_def Δ d) Γ d.body r n → FaultDefUnder Δ d r n
    d_type : {Γ : Scope Ty} {t : Ty}
        → RoomUnder σ Δ → nearest d.called Δ ≡ none → TakesUnder σ empty d.params Γ → refs d.result ≤ σ.refs
        → TypedUnder σ (with_def Δ d) Γ d.body t → (t ≡ d.result → ⊥) → FaultDefUnder Δ d wrong_body d.at

  -- ---- programs

  pub data FaultFromUnder : Scope Sig → List Def → Exp → Reason → ℕ → Type 0 where
    fault_main : {Δ : Scope Sig} {e : Exp} {r : Reason} {n : ℕ} → FaultUnder σ Δ empty e r n → FaultFromUnder Δ [] e r n
    fault_here : {Δ : Scope Sig} {d : Def} {ds : List Def} {e : Exp} {r : Reason} {n : ℕ} → FaultDefUnder Δ d r n
        → FaultFromUnder Δ (d ∷ ds) e r n
    fault_later : {Δ : Scope Sig} {d : Def} {ds : List Def} {e : Exp} {r : Reason} {n : ℕ}
        → FineUnder σ Δ d → FaultFromUnder (with_def Δ d) ds e r n → FaultFromUnder Δ (d ∷ ds) e r n

  abbrev pub HasFaultUnder : Program → Reason → ℕ → Type 0
  HasFaultUnder p r i = FaultFromUnder given p.defs p.main r i

-- ---- under the box's sizes

abbrev pub Fault : Scope Sig → Scope Ty → Exp → Reason → ℕ → Type 0
Fault = FaultUnder BOX

abbrev pub FaultAll : Scope Sig → Scope Ty → Exps → Reason → ℕ → Type 0
FaultAll = FaultAllUnder BOX

abbrev pub FaultTakes : Scope Ty → List Param → Reason → ℕ → Type 0
FaultTakes = FaultTakesUnder BOX

abbrev pub FaultDef : Scope Sig → Def → Reason → ℕ → Type 0
FaultDef = FaultDefUnder BOX

abbrev pub FaultFrom : Scope Sig → List Def → Exp → Reason → ℕ → Type 0
FaultFrom = FaultFromUnder BOX

abbrev pub HasFault : Program → Reason → ℕ → Type 0
HasFault = HasFaultUnder BOX
