use borrow.Author.Tests.{eqb-true, eqb-false}
use Rattle.records.proofs.Laws.{in-records}
use Rattle.conform.proofs.Laws.{cue-unnamed, cue-other, cue-texts}
use Rattle.conform.proofs.same_cue.Goals.{then-parts, else-parts, then-source_id-parts, else-source_id-parts, then-same_identifier, else-same_identifier}
use mathlib.Core.Bool.{true, false}
use mathlib.Core.Path.{refl, sym, ◌∙◌}
use Rattle.conform.proofs.same_cue.Goals as goal

pub source_id-requires : goal.source_id-requires
source_id-requires c = in-records _ _ c.requires.0

pub returns-then-same_settings : goal.returns-then-same_settings
returns-then-same_settings c = elim c.if-same_identifier.branch [
  | then-same_identifier z ↦ elim c.if-source_id-parts.branch [
    | then-source_id-parts y ↦ elim c.if-parts.branch [
      | then-parts x ↦ cue-texts _ _ _ _ _ _ true true _ x.if-parts.true x.source_id.ensures.0 (eqb-true _ _ (sym x.value-is ∙ y.if-source_id-parts.true)) (sym z.if-same_identifier.true ∙ y.value-is ∙ y.same_identifier.ensures) (sym c.if-same_settings.true ∙ z.value-is ∙ z.same_settings.ensures) c.same_payload.ensures
      | else-parts x ↦ absurd cc
    ]
    | else-source_id-parts y ↦ absurd cc
  ]
  | else-same_identifier z ↦ absurd cc
]

pub returns-else-same_settings : goal.returns-else-same_settings
returns-else-same_settings c = rw c.if-same_settings.false (elim c.if-same_identifier.branch [
  | then-same_identifier z ↦ elim c.if-source_id-parts.branch [
    | then-source_id-parts y ↦ elim c.if-parts.branch [
      | then-parts x ↦ cue-texts _ _ _ _ _ _ true false _ x.if-parts.true x.source_id.ensures.0 (eqb-true _ _ (sym x.value-is ∙ y.if-source_id-parts.true)) (sym z.if-same_identifier.true ∙ y.value-is ∙ y.same_identifier.ensures) (sym c.if-same_settings.false ∙ z.value-is ∙ z.same_settings.ensures) refl
      | else-parts x ↦ absurd cc
    ]
    | else-source_id-parts y ↦ absurd cc
  ]
  | else-same_identifier z ↦ elim c.if-source_id-parts.branch [
    | then-source_id-parts y ↦ elim c.if-parts.branch [
      | then-parts x ↦ cue-texts _ _ _ _ _ _ false _ _ x.if-parts.true x.source_id.ensures.0 (eqb-true _ _ (sym x.value-is ∙ y.if-source_id-parts.true)) (sym z.if-same_identifier.false ∙ y.value-is ∙ y.same_identifier.ensures) refl refl
      | else-parts x ↦ absurd cc
    ]
    | else-source_id-parts y ↦ elim c.if-parts.branch [
      | then-parts x ↦ cue-other _ _ _ _ _ _ x.if-parts.true x.source_id.ensures.0 (eqb-false _ _ (sym x.value-is ∙ y.if-source_id-parts.false))
      | else-parts x ↦ cue-unnamed _ _ _ _ _ x.if-parts.false
    ]
  ]
])

pub same_identifier-requires : goal.same_identifier-requires
same_identifier-requires c = (c.requires.0, c.requires.1, c.requires.2.identifier)

pub same_settings-requires : goal.same_settings-requires
same_settings-requires c = (c.requires.0, c.requires.1, c.requires.2.settings)

pub same_payload-requires : goal.same_payload-requires
same_payload-requires c = (c.requires.0, c.requires.1, c.requires.2.payload)
