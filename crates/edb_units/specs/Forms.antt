-- A fun form that was found, as the definitions see it.

use Rattle.edb_syntax.specs.FunForms as forms
use Rattle.edb_syntax.specs.Syntax.{clauses_of}
use Rattle.edb_units.specs.declared.form.Form.{Form}
use Rattle.edb_units.specs.declared.form.Form.TheVariants as form

abbrev pub form_of : Form → forms.Form
form_of (form.Clauses i cs) = forms.with_clauses i (clauses_of cs.now)
form_of (form.Local i f n) = forms.local i f.now n
