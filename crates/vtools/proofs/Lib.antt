mod HelpChecks
