mod RuleValues
