-- What follows of an answer that isn't a failure.
use Rattle.std.specs.Result.{IfOk, OnOk}
use Rattle.std.specs.declared.result.Result.{Result}
use Rattle.std.specs.declared.result.Result.TheVariants.{Ok, Err}

pub on_one : {X E A G : Type 0} (r : Result X E) → OnOk r A → (A → G) → OnOk r G
on_one (Ok x) a all = all a
on_one (Err x) a all = tt

pub on_two : {X E A B G : Type 0} (r : Result X E) → OnOk r A → OnOk r B → (A → B → G) → OnOk r G
on_two (Ok x) a b all = all a b
on_two (Err x) a b all = tt

pub on_six : {X E A B C D F H G : Type 0} (r : Result X E) → OnOk r A → OnOk r B → OnOk r C → OnOk r D → OnOk r F → OnOk r H → (A → B → C → D → F → H → G) → OnOk r G
on_six (Ok x) a b c d f h all = all a b c d f h
on_six (Err x) a b c d f h all = tt

pub if_one : {X E : Type 0} {P Q : X → Type 0} (r : Result X E) → IfOk r P → ((x : X) → P x → Q x) → IfOk r Q
if_one (Ok x) p all = all x p
if_one (Err e) p all = tt

-- what is said of what is answered is said where something is
pub if_on : {X E G : Type 0} {P : X → Type 0} (r : Result X E) → IfOk r P → ((x : X) → P x → G) → OnOk r G
if_on (Ok x) p all = all x p
if_on (Err e) p all = tt

pub if_on_too : {X E A G : Type 0} {P : X → Type 0} (r : Result X E) → IfOk r P → OnOk r A → ((x : X) → P x → A → G) → OnOk r G
if_on_too (Ok x) p a all = all x p a
if_on_too (Err e) p a all = tt

-- what always holds
pub always : {X E P : Type 0} (r : Result X E) → P → OnOk r P
always (Ok x) p = p
always (Err e) p = tt
