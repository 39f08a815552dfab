-- The templates after one more was defined.
use Rattle.std.proofs.Common.{◌≡◌, ◌≢◌, ◌∙◌, ◌++◌, ℕ, Bool, true, false, not, List, [], Option, Some, None, Decides, is_eq, refl, sym}
use Rattle.std.specs.Cmp.Lexicographic.{bytes_decides, slice_cmp, texts_ties}
use Rattle.std.specs.Ordering.{nat_cmp}
use Rattle.std.specs.Str.{bytes_eq}
use Rattle.cb_facts.specs.FaultLists.{unless}
use Rattle.cb_forms.specs.Members.{head_and_rest}
use Rattle.cb_forms.specs.Trees.{Trees}
use Rattle.cb_forms.specs.declared.fault.Fault.TheVariants.{MalformedForm, TemplateInUse}
use Rattle.cb_forms.specs.declared.fault.Fault.{Fault}
use Rattle.cb_laws.proofs.EntryLaws.{put_elsewhere, put_here}
use Rattle.cb_templates.specs.SlotValues.{Defines}
use Rattle.cb_templates.specs.Slots.{SlotShape}
use Rattle.cb_templates.specs.TemplateFaults.{named_template_faults, slots_form_faults, template_faults}
use Rattle.cb_templates.specs.TemplateShapes.{slots_said, template_said, template_shape}
use Rattle.cb_templates.specs.Templates.{Templates, slots_of, with_template, without_comment}
use Rattle.cb_words.specs.Reserved.{is_reserved}

names_level : (a b : List ℕ) → Decides (is_eq (slice_cmp nat_cmp a b)) (a ≡ b)
names_level a b = (λ e. (bytes_decides a b).0 (texts_ties a b ∙ e), λ e. sym (texts_ties a b) ∙ (bytes_decides a b).1 e)

pub put_template : (templates : Templates) (name : List ℕ) (slots : List SlotShape) → slots_of (with_template templates (name, slots)) name ≡ Some slots
put_template templates name slots = put_here (slice_cmp nat_cmp) bytes_eq names_level bytes_decides templates name slots

pub other_template : (templates : Templates) (name other : List ℕ) (slots : List SlotShape) → other ≢ name → slots_of (with_template templates (name, slots)) other ≡ slots_of templates other
other_template templates name other slots n = put_elsewhere (slice_cmp nat_cmp) bytes_eq names_level bytes_decides templates name other slots n

-- where a template has no fault, its slots have none
slots_clean : (reserved used : Bool) (fs : List Fault) → unless (not reserved) MalformedForm ++ (unless (not used) TemplateInUse ++ fs) ≡ [] → fs ≡ []
slots_clean true used fs is = absurd (cc)
slots_clean false true fs is = absurd (cc)
slots_clean false false fs is = is

pub is_defined : (templates : Templates) (in_use : List ℕ → Bool) (forms : Trees) → template_faults in_use forms ≡ [] → Defines templates forms (with_template templates (template_shape forms))
is_defined templates in_use forms h = by (head_and_rest forms) refl h
  where
    by : (o : Option (List ℕ × Trees)) → head_and_rest forms ≡ o → named_template_faults in_use o ≡ [] → Defines templates forms (with_template templates (template_said o))
    by None e is = absurd (cc)
    by (Some (name, ts)) e is = record {
      name = name;
      written = ts;
      head = e;
      faultless = slots_clean (is_reserved name) (in_use name) (slots_form_faults [] (without_comment ts)) is;
      here = put_template templates name (slots_said (without_comment ts));
      others = λ other n. other_template templates name other (slots_said (without_comment ts)) n;
    }
